-- A list of additions, call by call: "Each addition gets the buffers as the last call left them,
-- and nobody else writes to them" (demand 3). Definitions only.
use Rattle.std.specs.Prelude.{List, [], ◌∷◌, map, Float}
use Rattle.answers.specs.Answers.{Answer}
use Rattle.descriptions.specs.declared.description.Description.{Description}
use Rattle.set_table.specs.Buffers.{Buffers, buffers}
use Rattle.shared_set.specs.Set.{After, cleared, added}
use Rattle.shared_set.specs.Additions.{Addition, taken}

-- the calls' answers, and the buffers after the last
pub record Called : Type 0 where
  pub answers : List (Answer (Unit {0}))
  pub left : Buffers

-- what a station hands to an add besides the buffers; it names no k
pub record Call : Type 0 where
  pub description : Description
  pub curve : List Float

-- as the ledger is told of it: with the k that add takes
abbrev pub told : Call → Addition
told a = taken a.description a.curve

abbrev pub tell : List Call → List Addition
tell list = map told list

abbrev pub addition : Call → Buffers → After
addition a s = added (told a) s

abbrev pub answered : Answer (Unit {0}) → Called → Called
answered answer called = record { answers = answer ∷ called.answers; left = called.left }

abbrev pub additions : List Call → Buffers → Called
additions [] s = record { answers = []; left = s }
additions (a ∷ rest) s = answered (addition a s).answer (additions rest (addition a s).left)

abbrev pub cleared_set : Buffers → Buffers
cleared_set s = buffers (cleared s.table) s.vertices s.triangles

-- a clear, and then additions
abbrev pub clear_and_add : List Call → Buffers → Called
clear_and_add list s = additions list (cleared_set s)
