-- Rows whose rings follow one another: each is the first one raised. Assumes nothing.
use Rattle.std.proofs.Common.{take, ◌≡◌, refl, sym, ap, ◌∙◌, subst, List, ℕ, ◌+◌, ◌*◌, ◌≤◌, ◌<◌}
use Rattle.std.proofs.Common.{take, mul-le-mul_right, arith, length}
use Rattle.laws.specs.Overwrite.{overwrite}
use Rattle.laws.proofs.Overlaps.{overwrite-cover}
use Rattle.laws.specs.Blocks.{blocks}
use Rattle.laws.proofs.Blocks.{blocks-cong, map-blocks}
use Rattle.laws.proofs.Lent.{part-written}
use Rattle.surface.specs.Triangles.{flatten}
use Rattle.surface.specs.Quads.{quad_of}
use Rattle.surface.specs.Grid.{after_of, points_of, row_triangles, grid_triangles}
use Rattle.surface.specs.Raise.{raised, copy_of, Below}
use Rattle.surface.specs.declared.quads.Split.{Split}
use Rattle.surface.specs.declared.quads.Split.TheVariants.{Capped, Torus, Tube, Ribbon}
use Rattle.surface.specs.declared.grid.Chain.{Chain}
use Rattle.surface.specs.declared.grid.Chain.TheVariants.{Open}
use Rattle.surface.proofs.Below.{below_row}
use Rattle.surface.proofs.Flatten.{numbers, flatten-blocks}
use Rattle.surface.proofs.Pieces.{quad_at, row_at, length-row, length-grid}

raised-quad : (split : Split) (r a b d e : ℕ)
    → raised r (flatten (quad_of split a b d e)) ≡ flatten (quad_of split (r + a) (r + b) (r + d) (r + e))
raised-quad Capped r a b d e = refl
raised-quad Torus r a b d e = refl
raised-quad Tube r a b d e = refl
raised-quad Ribbon r a b d e = refl

module _ (split : Split) (round : Chain) (n : ℕ) where
  raised-row : (r low high : ℕ)
      → raised r (flatten (row_triangles split round n low high))
      ≡ flatten (row_triangles split round n (r + low) (r + high))
  raised-row r low high =
      ap (λ (l : List ℕ). raised r l) (flatten-blocks n (quad_at split round n low high))
      ∙ map-blocks (λ k. r + k) n (numbers (quad_at split round n low high))
      ∙ blocks-cong n (λ i. raised r (numbers (quad_at split round n low high) i)) (numbers (quad_at split round n (r + low) (r + high))) (λ i _.
      let j = after_of round n i in
      let a : r + (low + i) ≡ r + low + i = omega arith in
      let b : r + (low + j) ≡ r + low + j = omega arith in
      let d : r + (high + i) ≡ r + high + i = omega arith in
      let e : r + (high + j) ≡ r + high + j = omega arith in
      raised-quad split r (low + i) (low + j) (high + i) (high + j) ∙ (λ k. flatten (quad_of split (a k) (b k) (d k) (e k))))
      ∙ sym (flatten-blocks n (quad_at split round n (r + low) (r + high)))

  abbrev pub first_row : ℕ → List ℕ
  first_row base = flatten (row_triangles split round n base (base + points_of round n))

  copied-row : (m base g : ℕ)
      → copy_of (points_of round n) (first_row base) g ≡ numbers (row_at split round n Open m base) g
  copied-row m base g =
      let w = points_of round n in
      let low : g * w + base ≡ base + g * w = omega arith in
      let high : g * w + (base + w) ≡ base + (g + 1) * w = omega arith in
      raised-row (g * w) base (base + w) ∙ (λ k. flatten (row_triangles split round n (low k) (high k)))

  pub below_copy : (m base g bound : ℕ) → g < m → base + (m + 1) * points_of round n ≤ bound
      → Below bound (copy_of (points_of round n) (first_row base) g)
  below_copy m base g bound less h =
      let w = points_of round n in
      let within = mul-le-mul_right w less in
      subst (λ (r : List ℕ). Below bound r) (sym (copied-row m base g)) (below_row split round n bound (base + g * w) (base + (g + 1) * w) (omega arith) (omega arith))

  -- the first row, read back where it was written
  pub first_read : (base : ℕ) (t₀ : List ℕ) {t : List ℕ} → t ≡ overwrite 0 (first_row base) t₀
      → n * 6 ≤ length t₀ → take (n * 6) t ≡ first_row base
  first_read base t₀ written h =
      ap (λ (r : List ℕ). take (n * 6) r) written
      ∙ part-written 0 (n * 6) (first_row base) t₀ (length-row split round n base (base + points_of round n)) (omega arith)

  -- the first row and its copies are the rows
  pub rows_written : (m base : ℕ) (t₀ : List ℕ) {t t' : List ℕ} → 0 < m → t ≡ overwrite 0 (first_row base) t₀
      → t' ≡ overwrite 0 (blocks m (copy_of (points_of round n) (first_row base))) t → t' ≡ overwrite 0 (flatten (grid_triangles split Open m round n base)) t₀
  rows_written m base t₀ some first copies =
      let f = row_at split round n Open m base in
      let w = points_of round n in
      let all = flatten (blocks m f) in
      let is : blocks m (copy_of w (first_row base)) ≡ all =
      blocks-cong m (copy_of w (first_row base)) (numbers f) (λ g _. copied-row m base g) ∙ sym (flatten-blocks m f) in
      let one = length-row split round n base (base + w) in
      let sized = length-grid split round n Open m base in
      copies
      ∙ (λ k. overwrite 0 (is k) (first k))
      ∙ overwrite-cover 0 (first_row base) all t₀ (omega (arith, mul-le-mul_right (n * 6) some))
