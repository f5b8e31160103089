-- What 2, 3 and 4 let pass has room for its entry, its vertices and its triangles. Assumes
-- nothing.
use Rattle.std.proofs.Common.{◌≡◌, true, not, ℕ, ◌+◌, ◌*◌, ◌≤◌, ◌<◌, arith, leb-true, eqb, leb}
use Rattle.std.proofs.lemmas.Bool.{eqb-false, not-true, and_parts}
use Rattle.set_table.specs.Entries.{table_words}
use Rattle.set_table.specs.Room.{Fits, most_bodies, entry_permitted}
use Rattle.set_table.specs.declared.lengths.Lengths.{Lengths}
use Rattle.set_table.specs.declared.totals.Totals.{Totals}
use Rattle.surface.specs.Limits.{most_in_all}
use Rattle.surface.proofs.Totals.{fits-bounds}

entry-permitted : (B lent : ℕ) → B ≤ most_bodies → entry_permitted B lent ≡ true
    → (B < most_bodies) × (table_words (B + 1) ≤ lent)
unfolding entry_permitted
entry-permitted B lent most h =
    let both = and_parts (not (eqb B most_bodies)) (leb (table_words (B + 1)) lent) h in
    let other = eqb-false B most_bodies (not-true (eqb B most_bodies) both.0) in
    (omega arith, leb-true (table_words (B + 1)) lent both.1)

-- v and f: how many vertices and triangles are added to those of the set
pub record Fitting (lent : Lengths) (t : Totals) (v f : ℕ) : Type 0 where
  pub entry : (t.bodies < most_bodies) × (table_words (t.bodies + 1) ≤ lent.table)
  pub vertices : (t.vertices + v ≤ most_in_all) × (3 * (t.vertices + v) ≤ lent.vertices)
  pub triangles : (t.triangles + f ≤ most_in_all) × (3 * (t.triangles + f) ≤ lent.triangles)

pub fitting : (lent : Lengths) (t : Totals) (v f : ℕ) → Fits lent t v f → Fitting lent t v f
fitting lent t v f h = record {
  entry = entry-permitted t.bodies lent.table h.1 h.0.0;
  vertices = fits-bounds (t.vertices + v) lent.vertices h.0.1.0;
  triangles = fits-bounds (t.triangles + f) lent.triangles h.0.1.1.0;
}
