-- What the ledger says of a whole list of records: the answers and every element of the buffers.
-- Definitions only.
use Rattle.std.specs.Prelude.{List, [], ◌∷◌, map, ℕ, Float, Option, Some, None, Result}
use Rattle.laws.specs.Overwrite.{overwrite}
use Rattle.answers.specs.Answers.{Answer, refused, accepted, number_in, answer_of}
use Rattle.answers.specs.declared.refusal.Refusal.{Refusal}
use Rattle.set_table.specs.Buffers.{Buffers, buffers, lengths_of}
use Rattle.shared_set.specs.Set.{clear_answer}
use Rattle.ledger.specs.Ledger.{empty, replies_to, set_table, set_vertices, set_triangles}
use Rattle.ledger.specs.Calls.{Call, tell, Called}
use Rattle.ledger.specs.Holds.{begins_with}
use Rattle.ledger.specs.Demand3.{ledger_of, zeroed_vertices}
use Rattle.records.specs.Records.{additions_in}

-- the answers of one record: one, or none if it is skipped
abbrev pub replies_in : Option (Result (Unit {0}) Refusal) → List (Answer (Unit {0}))
replies_in None = []
replies_in (Some result) = answer_of result ∷ []

abbrev pub called : List (Answer (Unit {0})) → List ℕ → List Float → List ℕ → Called
called answers table vertices triangles = record { answers = answers; left = buffers table vertices triangles }

-- document 01's numbers, 0 for what is accepted
abbrev pub numbers_of : List (Answer (Unit {0})) → List ℕ
numbers_of answers = map number_in answers

-- the buffers that begin with the ledger's set
abbrev pub ledger_set : Buffers → List Call → Buffers
ledger_set s list =
    buffers
    (begins_with (set_table (ledger_of s list)) s.table)
    (begins_with (set_vertices (ledger_of s list)) (zeroed_vertices s list))
    (begins_with (set_triangles (ledger_of s list)) s.triangles)

-- the clear's answer, the buffer of answers and the three buffers
pub record Built : Type 0 where
  pub answer : Answer (Unit {0})
  pub answers : List ℕ
  pub left : Buffers

abbrev pub built_by : Answer (Unit {0}) → List Call → List ℕ → Buffers → Built
built_by (refused number) list answers s = record { answer = refused number; answers = answers; left = s }
built_by (accepted u) list answers s = record {
  answer = accepted u;
  answers = overwrite 0 (numbers_of (replies_to (lengths_of s) empty (tell list))) answers;
  left = ledger_set s list;
}

abbrev pub built_of : List ℕ → List ℕ → Buffers → Built
built_of records answers s = built_by (clear_answer s.table) (additions_in records) answers s

abbrev pub built : Answer (Unit {0}) → List ℕ → Buffers → Built
built answer answers left = record { answer = answer; answers = answers; left = left }
