-- How long the ledger's set is. Assumes nothing.
use Rattle.std.proofs.Common.{◌≡◌, refl, ap, ◌∙◌, ◌+◌, ◌*◌, arith, length, length-append}
use Rattle.set_table.specs.Entries.{entry_words, table_words, words_of, all_words, entry_totals}
use Rattle.set_table.specs.declared.totals.Totals.{Totals}
use Rattle.set_table.proofs.Words.{all-words-next, totals-next}
use Rattle.shared_set.specs.Bodies.{Body, triangle_count_in, entry_of}
use Rattle.ledger.specs.Ledger.{Ledger, empty, then, body_count, vertex_sum, triangle_sum, totals_of}
use Rattle.ledger.specs.Ledger.{entries_of, set_table, set_vertices, last_triangles, set_triangles}
use Rattle.ledger.specs.Shapes.{EachShaped}
use Rattle.ledger.proofs.Bodies.{length-shifted}

length-entries : (L : Ledger) → length (all_words (entries_of L)) ≡ entry_words * body_count L
length-entries empty = refl
length-entries (then L b) =
    let e = entry_of (totals_of L) b in
    let words = ap length (all-words-next (entries_of L) e) in
    omega (arith, length-entries L, words, length-append (all_words (entries_of L)) (words_of e))

pub length-table : (L : Ledger) → length (set_table L) ≡ table_words (body_count L)
length-table L = omega (arith, length-entries L)

pub length-set-vertices : (L : Ledger) → EachShaped L → length (set_vertices L) ≡ 3 * vertex_sum L
length-set-vertices empty h = refl
length-set-vertices (then L b) h =
    omega (arith, length-set-vertices L h.0, length-append (set_vertices L) b.vertices, h.1.whole)

-- whatever is added to the indices
length-triangles : (L : Ledger) (b : Body) → length (last_triangles L b) ≡ 3 * triangle_count_in b
length-triangles L b = length-shifted _ b.triangles

pub length-set-triangles : (L : Ledger) → length (set_triangles L) ≡ 3 * triangle_sum L
length-set-triangles empty = refl
length-set-triangles (then L b) =
    omega (arith, length-set-triangles L, length-append (set_triangles L) (last_triangles L b), length-triangles L b)

-- what its entries add up to
pub entries-totals : (L : Ledger) → entry_totals (entries_of L) ≡ totals_of L
entries-totals empty = refl
entries-totals (then L b) =
    let e = entry_of (totals_of L) b in
    let before = entries-totals L in
    let vertices : vertex_sum L + e.vertices ≡ vertex_sum (then L b) = omega arith in
    totals-next (entries_of L) e
    ∙ (λ i. record {
      bodies = (before i).bodies + 1;
      vertices = (ap (λ (t : Totals). t.vertices + e.vertices) before ∙ vertices) i;
      triangles = (before i).triangles + e.triangles;
    })
