-- What loops keep that write points one after the other: to a buffer of floats, three for each,
-- or to a table of points. Assumes nothing.
use Rattle.std.proofs.Common.{◌≡◌, refl, sym, ap, ◌∙◌, List, [], ◌∷◌, ℕ, ◌+◌, ◌*◌, ◌≤◌, ◌<◌, Float, length, set, arith}
use Rattle.laws.specs.Overwrite.{overwrite}
use Rattle.laws.proofs.Overwrite.{one_store, get_or-within}
use Rattle.laws.specs.Blocks.{blocks}
use Rattle.laws.proofs.Blocks.{length-blocks, get_or-blocks, one_more}
use Rattle.vec3.specs.Points.{coordinates, point_in}
use Rattle.vec3.specs.declared.points.Point.{Point}

-- A turn finds t, in which i points are written, writes point i at p, and leaves t'.
pub point_written : (at i : ℕ) (point : ℕ → Point) (old : List Float) {t t' : List Float} {p : ℕ} {q : Point}
    → t ≡ overwrite at (blocks i (λ k. coordinates (point k))) old → p ≡ at + i * 3 → t' ≡ overwrite p (coordinates q) t
    → q ≡ point i → t' ≡ overwrite at (blocks (i + 1) (λ k. coordinates (point k))) old
point_written at i point old before place written is =
    one_more at i 3 (λ k. coordinates (point k)) old (λ k h. refl) before place written (ap coordinates is)

-- A turn finds the table t, in which i points are written, and stores point i as the next.
pub point_stored : (i : ℕ) (point : ℕ → Point) (old : List Point) {t : List Point} {q : Point}
    → t ≡ overwrite 0 (blocks i (λ k. point k ∷ [])) old → q ≡ point i
    → set t i q ≡ overwrite 0 (blocks (i + 1) (λ k. point k ∷ [])) old
point_stored i point old {t} {q} before is =
    one_more 0 i 1 (λ k. point k ∷ []) old {p = i} (λ k h. refl) before (omega arith) (one_store i q t)
    (ap (λ (x : Point). x ∷ []) is)

-- each point of a table in which n of them were written from index `at` on
pub table-point : (at n : ℕ) (point : ℕ → Point) (t₀ : List Point) (k : ℕ) {q : ℕ} → at + n ≤ length t₀ → k < n
    → q ≡ at + k → point_in (overwrite at (blocks n (λ k. point k ∷ [])) t₀) q ≡ point k
table-point at n point t₀ k room h is =
    let points : List Point = blocks n (λ k. point k ∷ []) in
    let sized : length points ≡ n * 1 = length-blocks 1 n (λ k. point k ∷ []) (λ k h. refl) in
    ap (point_in (overwrite at points t₀)) is
    ∙ get_or-within at points t₀ k _ (omega (arith, sized)) (omega arith)
    ∙ get_or-blocks 1 n (λ k. point k ∷ []) k 0 k _ (λ k. refl) h (omega arith) (omega arith)
