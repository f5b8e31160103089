-- Demand 3, as one claim about a whole list of additions. The theorem is `demand-3` in
-- proofs/Demand3.antt. Definitions only.
use Rattle.std.specs.Prelude.{◌≡◌, List, Float}
use Rattle.answers.specs.Answers.{accepted}
use Rattle.set_table.specs.Buffers.{Buffers, lengths_of}
use Rattle.shared_set.specs.Set.{clear_answer}
use Rattle.ledger.specs.Ledger.{Ledger, empty, replies_to, final, set_table, set_vertices, set_triangles, zeroed_by23}
use Rattle.ledger.specs.Calls.{Call, tell, additions, clear_and_add}
use Rattle.ledger.specs.Shapes.{EachBest, EachAdded, Grown}
use Rattle.ledger.specs.Holds.{begins_with, Holds}

-- the ledger L after the list, of whose additions it is told with their k, and what the vertex
-- buffer holds past its set
abbrev pub ledger_from : Buffers → Ledger → List Call → Ledger
ledger_from s L list = final (lengths_of s) L (tell list)

abbrev pub zeroed_from : Buffers → Ledger → List Call → List Float
zeroed_from s L list = zeroed_by23 (lengths_of s) L (tell list) s.vertices

-- What holds after the additions of `list`, on buffers that held s, and the ledger L in them, when
-- the list began.
pub record FromHeld (s : Buffers) (L : Ledger) (list : List Call) : Type 0 where
  -- "In the ledger of demand 3 each addition of kind 6 that meets no refusal before 23, and whose
  -- scores are finite, has one such k." (document 02, No. 1)
  pub twists : EachBest (tell list)
  -- "The answers of the additions are the ledger's."
  pub answers : (additions list s).answers ≡ replies_to (lengths_of s) L (tell list)
  -- "After them the buffers begin with the ledger's set, bit for bit. Past it they hold what they
  -- held when the list began, with +0 in the vertex stretch of each 23."
  pub table : (additions list s).left.table ≡ begins_with (set_table (ledger_from s L list)) s.table
  pub vertices : (additions list s).left.vertices
      ≡ begins_with (set_vertices (ledger_from s L list)) (zeroed_from s L list)
  pub triangles : (additions list s).left.triangles ≡ begins_with (set_triangles (ledger_from s L list)) s.triangles
  -- so they hold the ledger after the list, which is L with the accepted bodies at its end
  pub holds : Holds (additions list s).left (ledger_from s L list)
  pub grown : Grown L (ledger_from s L list)

-- the same after a clear, which leaves the empty ledger
abbrev pub ledger_of : Buffers → List Call → Ledger
ledger_of s list = ledger_from s empty list

abbrev pub zeroed_vertices : Buffers → List Call → List Float
zeroed_vertices s list = zeroed_from s empty list

-- What holds after a clear and the additions of `list`, on buffers that held s before the clear;
-- word 0, which the clear writes, is the set's own.
pub record AfterClear (s : Buffers) (list : List Call) : Type 0 where
  pub twists : EachBest (tell list)
  pub answers : (clear_and_add list s).answers ≡ replies_to (lengths_of s) empty (tell list)
  pub table : (clear_and_add list s).left.table ≡ begins_with (set_table (ledger_of s list)) s.table
  pub vertices : (clear_and_add list s).left.vertices
      ≡ begins_with (set_vertices (ledger_of s list)) (zeroed_vertices s list)
  pub triangles : (clear_and_add list s).left.triangles ≡ begins_with (set_triangles (ledger_of s list)) s.triangles
  -- "In every body .."
  pub bodies : EachAdded (ledger_of s list)
  pub holds : Holds (clear_and_add list s).left (ledger_of s list)

-- Any three buffers and any list of additions: from a ledger that the buffers hold, and after a
-- clear that is accepted, whatever they hold.
pub record Demand3 : Type 0 where
  pub held : (s : Buffers) (L : Ledger) (list : List Call) → Holds s L → FromHeld s L list
  pub clear : (s : Buffers) (list : List Call) → clear_answer s.table ≡ accepted tt → AfterClear s list
