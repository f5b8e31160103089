-- The ledger that demand 3 compares with: document 01, the last paragraphs of 'Frames and
-- vertices'. It is fed the buffers' lengths and the additions; it reads no table and makes no call.
-- Definitions only.
use Rattle.std.specs.Prelude.{cond, List, [], ◌∷◌, ◌++◌, ℕ, ◌+◌, ◌*◌, eqb, Float, length}
use Rattle.laws.specs.Overwrite.{overwrite}
use Rattle.float32.specs.Zeros.{zeros}
use Rattle.surface.specs.Triangles.{flatten, shift}
use Rattle.answers.specs.Answers.{Answer, refused, accepted, first_of}
use Rattle.set_table.specs.declared.lengths.Lengths.{Lengths}
use Rattle.set_table.specs.Entries.{all_words}
use Rattle.set_table.specs.declared.totals.Totals.{Totals}
use Rattle.set_table.specs.declared.entries.Entry.{Entry}
use Rattle.shared_set.specs.Bodies.{Body, vertex_count_in, triangle_count_in, body_alone, entry_of}
use Rattle.shared_set.specs.Additions.{Addition, addition_tests}

-- "a list of bodies, empty after the clear", which grows at its end
pub data Ledger : Type 0 where
  empty : Ledger
  then : Ledger → Body → Ledger

-- "the number of bodies in the ledger"
abbrev pub body_count : Ledger → ℕ
body_count empty = 0
body_count (then L b) = body_count L + 1

-- "the totals the sums of their counts"
abbrev pub vertex_sum : Ledger → ℕ
vertex_sum empty = 0
vertex_sum (then L b) = vertex_sum L + vertex_count_in b

abbrev pub triangle_sum : Ledger → ℕ
triangle_sum empty = 0
triangle_sum (then L b) = triangle_sum L + triangle_count_in b

abbrev pub totals_of : Ledger → Totals
totals_of L = record { bodies = body_count L; vertices = vertex_sum L; triangles = triangle_sum L }

-- "of each addition, the arguments other than the buffers": `Addition` of crates/shared_set has
-- them, and "each addition of kind 6 .. has one such k" (document 02, No. 1), which is data here.

-- "An addition gets the first refusal, in add's order, whose condition holds .. 1 doesn't arise."
unfoldable pub reply_to : Lengths → Ledger → Addition → Answer (Unit {0})
reply_to lent L a = first_of (addition_tests lent (totals_of L) a) tt

-- "Refused, it leaves the ledger as it is. Otherwise its body alone goes to the end, with its kind
-- and n."
abbrev pub entered : Ledger → Addition → Answer (Unit {0}) → Ledger
entered L a (refused number) = L
entered L a (accepted u) = then L (body_alone a)

-- the answers to a list of additions, and the ledger after it
abbrev pub replies_to : Lengths → Ledger → List Addition → List (Answer (Unit {0}))
replies_to lent L [] = []
replies_to lent L (a ∷ rest) = reply_to lent L a ∷ replies_to lent (entered L a (reply_to lent L a)) rest

abbrev pub final : Lengths → Ledger → List Addition → Ledger
final lent L [] = L
final lent L (a ∷ rest) = final lent (entered L a (reply_to lent L a)) rest

-- "The ledger's set is word 0, the number of its bodies; an entry for each, its first vertex and
-- first triangle being the sums of the counts before it"
abbrev pub entries_of : Ledger → List Entry
entries_of empty = []
entries_of (then L b) = entries_of L ++ (entry_of (totals_of L) b ∷ [])

abbrev pub set_table : Ledger → List ℕ
set_table L = body_count L ∷ all_words (entries_of L)

-- "all their vertices in order"
abbrev pub set_vertices : Ledger → List Float
set_vertices empty = []
set_vertices (then L b) = set_vertices L ++ b.vertices

-- "each index with its body's first vertex added": the triangles of a body that goes to the end
abbrev pub last_triangles : Ledger → Body → List ℕ
last_triangles L b = flatten (shift (vertex_sum L) b.triangles)

-- "all their triangles in order"
abbrev pub set_triangles : Ledger → List ℕ
set_triangles empty = []
set_triangles (then L b) = set_triangles L ++ last_triangles L b

-- What the vertex buffer held when the list began, "with +0 in the vertex stretch of each 23": the
-- stretch that the vertices would have had begins after the ledger's vertices.
abbrev pub zeroed_by : Ledger → Addition → Answer (Unit {0}) → List Float → List Float
zeroed_by L a (refused number) held =
    cond (eqb number 23) (overwrite (3 * vertex_sum L) (zeros (length (body_alone a).vertices)) held) held
zeroed_by L a (accepted u) held = held

abbrev pub zeroed_by23 : Lengths → Ledger → List Addition → List Float → List Float
zeroed_by23 lent L [] held = held
zeroed_by23 lent L (a ∷ rest) held =
    zeroed_by23 lent (entered L a (reply_to lent L a)) rest (zeroed_by L a (reply_to lent L a) held)
