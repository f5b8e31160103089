-- What it means that a surface can be placed: where its vertices' numbers and its triangles'
-- places end. Assumes nothing.
use Rattle.std.proofs.Common.{refl, ap, ◌∙◌, ◌≡◌, sym, Bool, true, false, cond, ◌&&◌, true≢false, ℕ, ◌+◌, ◌*◌, ◌^◌}
use Rattle.std.proofs.Common.{◌≤◌, arith, leb-true, leb}
use Rattle.laws.proofs.Products.{next_row}
use Rattle.std.proofs.lemmas.Bool.{and_parts}
use Rattle.surface.specs.Grid.{points_of}
use Rattle.surface.specs.Limits.{fits}
use Rattle.surface.specs.Whole.{chain_of, is_capped, ring_size, grid_size, GridFits}
use Rattle.surface.specs.Whole.{surface_vertex_count, surface_triangle_count, placeable, SurfaceFits}
use Rattle.surface.specs.declared.whole.Ending.{Ending}
use Rattle.surface.specs.declared.whole.Ending.TheVariants.{Open, Closed, Capped}
use Rattle.surface.specs.declared.whole.Surface.{Surface}
use Rattle.surface.proofs.Chains.{points-bounds}

-- between caps there is one ring more than there are rows
one-more-ring : (ending : Ending) (n : ℕ) → is_capped ending ≡ true → points_of (chain_of ending) n ≡ n + 1
one-more-ring Open n h = refl
one-more-ring Closed n h = absurd (true≢false (sym h))
one-more-ring Capped n h = refl

pub placeable_true : (s : Surface) (first room : ℕ) → placeable s first room ≡ true → SurfaceFits s first room
unfolding placeable fits
placeable_true s first room h =
    let total = leb (surface_triangle_count s) (2 ^ 28) in
    let held = leb (3 * surface_triangle_count s) room in
    let p = and_parts (leb (first + surface_vertex_count s) (2 ^ 28)) (total && held) h in
    record {
      numbers = leb-true (first + surface_vertex_count s) (2 ^ 28) p.0;
      within = leb-true (3 * surface_triangle_count s) room (and_parts total held p.1).1;
    }

module _ (s : Surface) (first room : ℕ) (held : SurfaceFits s first room) where
  bounds : (b : Bool) → is_capped s.ending ≡ b
      → (first + (grid_size s + cond b 2 0) ≤ 2 ^ 28)
      × (3 * (2 * (s.rows * s.columns) + cond b (2 * s.columns) 0) ≤ room)
  unfolding surface_vertex_count surface_triangle_count
  bounds b is = rw (← is) (held.numbers, held.within)

  pub bare_fits : is_capped s.ending ≡ false → GridFits s first room
  bare_fits bare = let b = bounds false bare in record { numbers = omega arith; within = omega arith }

  -- The top cap lies on ring `rows`, which is the last one; after it stands the top pole.
  pub capped_fits : is_capped s.ending ≡ true
      → (surface_vertex_count s ≡ grid_size s + 2)
      × (grid_size s ≡ s.rows * ring_size s + ring_size s)
      × (first + 1 + grid_size s ≤ 2 ^ 28)
      × (s.columns ≤ ring_size s)
      × (s.columns * 3 + s.rows * s.columns * 6 + s.columns * 3 ≤ room)
  unfolding surface_vertex_count
  capped_fits capped =
      let b = bounds true capped in (
        rw capped refl,
        ap (λ (k : ℕ). k * ring_size s) (one-more-ring s.ending s.rows capped) ∙ next_row s.rows (ring_size s),
        omega arith,
        (points-bounds s.round s.columns).0,
        omega arith,
      )
