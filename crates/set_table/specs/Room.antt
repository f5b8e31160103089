-- How much a set may hold: its limits, and refusals 2, 3 and 4 (document 01, 'Refused, and through
-- whom'), over the number of bodies, the totals and the lengths of the buffers. No table is read
-- here: the ledger asks the same. Definitions only.
use Rattle.std.specs.Prelude.{Bool, not, ◌&&◌, List, [], ◌∷◌, ℕ, ◌+◌, ◌≤◌, eqb, leb}
use Rattle.surface.specs.Limits.{fits}
use Rattle.answers.specs.Answers.{Test, AllPermitted, test}
use Rattle.set_table.specs.Entries.{table_words}
use Rattle.set_table.specs.declared.lengths.Lengths.{Lengths}
use Rattle.set_table.specs.declared.totals.Totals.{Totals}

-- "B above 64" (1), "B is 64" (2): the most bodies that a set may have
abbrev pub most_bodies : ℕ
most_bodies = 64

abbrev pub lengths : ℕ → ℕ → ℕ → Lengths
lengths table vertices triangles = record { table = table; vertices = vertices; triangles = triangles }

-- no further entry (2): not "B is 64, or 7 + 6B is above the table's length"
unfoldable pub entry_permitted : ℕ → ℕ → Bool
entry_permitted B length = not (eqb B most_bodies) && leb (table_words (B + 1)) length

-- 2, and 3 and 4: "the new vertices, then triangles, exceed their buffer or take their total above
-- 2^28"
abbrev pub room_tests : Lengths → Totals → ℕ → ℕ → List Test
room_tests lent t vertices triangles =
    test 2 (entry_permitted t.bodies lent.table)
    ∷ test 3 (fits (t.vertices + vertices) lent.vertices)
    ∷ test 4 (fits (t.triangles + triangles) lent.triangles)
    ∷ []

-- what 2, 3 and 4 let pass
abbrev pub Fits : Lengths → Totals → ℕ → ℕ → Type 0
Fits lent t vertices triangles = AllPermitted (room_tests lent t vertices triangles) × (t.bodies ≤ most_bodies)
