-- The calls of the shared set: their answers and every element of the three buffers after them
-- (document 01, 'The shared set' and 'Refused, and through whom'). Definitions only.
use Rattle.std.specs.Prelude.{cond, List, [], ◌∷◌, ◌++◌, ℕ, ◌*◌, eqb, leb, Float, length}
use Rattle.laws.specs.Overwrite.{overwrite}
use Rattle.float32.specs.Zeros.{zeros}
use Rattle.surface.specs.Triangles.{flatten, shift}
use Rattle.answers.specs.Answers.{Answer, Test, refused, accepted, first_of, test, not_finite}
use Rattle.set_table.specs.Buffers.{Buffers, buffers, lengths_of}
use Rattle.set_table.specs.Table.{totals_in, table_tests, with_entry}
use Rattle.set_table.specs.declared.totals.Totals.{Totals}
use Rattle.shared_set.specs.Bodies.{Body, entry_of, body_alone}
use Rattle.shared_set.specs.Additions.{Addition, addition_tests}

-- a call's answer, and the buffers after it
pub record After : Type 0 where
  pub answer : Answer (Unit {0})
  pub left : Buffers

abbrev pub after : Answer (Unit {0}) → List ℕ → List Float → List ℕ → After
after answer table vertices triangles = record { answer = answer; left = buffers table vertices triangles }

-- "clear (word 0 becomes 0, the rest is untouched)"; "Clear gives 1 for an empty table only."
abbrev pub clear_answer : List ℕ → Answer (Unit {0})
clear_answer T = first_of (test 1 (leb 1 (length T)) ∷ []) tt

abbrev pub cleared : List ℕ → List ℕ
cleared T = overwrite 0 (0 ∷ []) T

-- 23: "The stretch that the vertices would have had is +0 throughout; nothing else is touched."
abbrev pub with_zeros : Totals → Body → List Float → List Float
with_zeros t b vertices = overwrite (3 * t.vertices) (zeros (length b.vertices)) vertices

-- what an answer leaves of the vertex buffer
abbrev pub vertices_after : Answer (Unit {0}) → Totals → Body → List Float → List Float
vertices_after (accepted a) t b vertices = overwrite (3 * t.vertices) b.vertices vertices
vertices_after (refused number) t b vertices = cond (eqb number not_finite) (with_zeros t b vertices) vertices

-- the triangles of a body that follows bodies of these totals
abbrev pub with_triangles : Totals → Body → List ℕ → List ℕ
with_triangles t b triangles = overwrite (3 * t.triangles) (flatten (shift t.vertices b.triangles)) triangles

-- "Refusals return their number and leave all buffers untouched, save 23." "An accepted add writes
-- its vertices, triangles, entry and word 0, and no other element."
abbrev pub left_by : Answer (Unit {0}) → Totals → Body → Buffers → Buffers
left_by (refused number) t b s = buffers s.table (vertices_after (refused number) t b s.vertices) s.triangles
left_by (accepted a) t b s =
    buffers
    (with_entry t.bodies (entry_of t b) s.table)
    (vertices_after (accepted a) t b s.vertices)
    (with_triangles t b s.triangles)

abbrev pub after_answer : Totals → Body → Buffers → Answer (Unit {0}) → After
after_answer t b s answer = record { answer = answer; left = left_by answer t b s }

-- "Add's order: 1, 10, 20, 21, 22, 11, 12, 13, 2, 3, 4, 23"
abbrev pub add_tests : Addition → Buffers → List Test
add_tests a s =
    table_tests s.table (length s.vertices) (length s.triangles)
    ++ addition_tests (lengths_of s) (totals_in s.table) a

-- add: its answer and the buffers after it
unfoldable pub added : Addition → Buffers → After
added a s = after_answer (totals_in s.table) (body_alone a) s (first_of (add_tests a s) tt)
