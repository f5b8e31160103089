-- A grid is the rows whose rings follow one another and, where it is closed, a last row that leads
-- back to the first ring. Assumes nothing.
use Rattle.std.proofs.Common.{◌≡◌, sym, ap, ◌∙◌, ◌++◌, ℕ, ◌+◌, ◌*◌, ◌<◌, add-one, arith}
use Rattle.laws.specs.Blocks.{blocks}
use Rattle.laws.proofs.Blocks.{blocks-cong}
use Rattle.surface.specs.Grid.{after_of, points_of, straight_of, row_triangles, grid_triangles}
use Rattle.surface.specs.declared.quads.Split.{Split}
use Rattle.surface.specs.declared.grid.Chain.{Chain}
use Rattle.surface.specs.declared.grid.Chain.TheVariants.{Open}
use Rattle.surface.proofs.Chains.{straight-after, last-after}
use Rattle.surface.proofs.Pieces.{row_at}

module _ (split : Split) (round : Chain) (n : ℕ) where
  straight-rows : (along : Chain) (m base k : ℕ) → k ≡ straight_of along m
      → grid_triangles split Open k round n base ≡ blocks k (row_at split round n along m base)
  straight-rows along m base k is =
      blocks-cong k (row_at split round n Open k base) (row_at split round n along m base) (λ g h.
      let next = straight-after along m g (omega arith) in
      λ i. row_triangles split round n (base + g * points_of round n) (base + next i * points_of round n))

  pub one_left : (along : Chain) (m base k : ℕ) → k ≡ straight_of along m → k < m
      → grid_triangles split Open k round n base ++ row_triangles split round n (base + k * points_of round n) base ≡ grid_triangles split along m round n base
  one_left along m base k is h =
      let f = row_at split round n along m base in
      let w = points_of round n in
      let last = last-after along m (omega arith) in
      let first : 0 ≡ after_of along m k = last.1 ∙ ap (λ (j : ℕ). after_of along m j) (sym is) in
      let back : base ≡ base + after_of along m k * w = omega (arith, ap (λ (j : ℕ). j * w) first) in
      let all : k + 1 ≡ m = omega arith in
      (λ i. straight-rows along m base k is i ++ row_triangles split round n (base + k * w) (back i))
      ∙ ap (λ (j : ℕ). blocks j f) (sym (add-one k) ∙ all)
