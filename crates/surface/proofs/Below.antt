-- Lists whose numbers are below a bound: those of blocks, and of rows whose rings are.
-- Assumes nothing.
use Rattle.std.proofs.Common.{sym, subst, List, [], ◌∷◌, ◌++◌, ℕ, zero, suc, ◌+◌, ◌≤◌, ◌<◌}
use Rattle.std.proofs.Common.{not-suc-le-zero, le_of_suc-le-suc, arith, length, get_or}
use Rattle.laws.specs.Blocks.{blocks}
use Rattle.surface.specs.Triangles.{flatten}
use Rattle.surface.specs.Quads.{quad_of}
use Rattle.surface.specs.Grid.{after_of, points_of, row_triangles}
use Rattle.surface.specs.Raise.{Below}
use Rattle.surface.specs.declared.quads.Split.{Split}
use Rattle.surface.specs.declared.quads.Split.TheVariants.{Capped, Torus, Tube, Ribbon}
use Rattle.surface.specs.declared.grid.Chain.{Chain}
use Rattle.surface.proofs.Chains.{after-lt, points-bounds}
use Rattle.surface.proofs.Flatten.{numbers, flatten-blocks}
use Rattle.surface.proofs.Pieces.{quad_at}

pub below_at : (bound : ℕ) (l : List ℕ) (k : ℕ) → Below bound l → k < length l → get_or l k 0 < bound
below_at bound [] k b h = absurd (not-suc-le-zero h)
below_at bound (n ∷ l) zero b h = b.0
below_at bound (n ∷ l) (suc k) b h = below_at bound l k b.1 (le_of_suc-le-suc h)

below-append : (bound : ℕ) (l m : List ℕ) → Below bound l → Below bound m → Below bound (l ++ m)
below-append bound [] m b c = c
below-append bound (n ∷ l) m b c = (b.0, below-append bound l m b.1 c)

pub below-blocks : (bound n : ℕ) (f : ℕ → List ℕ) → ((k : ℕ) → k < n → Below bound (f k)) → Below bound (blocks n f)
below-blocks bound zero f h = tt
below-blocks bound (suc n) f h =
    below-append bound (blocks n f) (f n) (below-blocks bound n f (λ k l. h k (omega arith))) (h n (omega arith))

below-quad : (split : Split) (m a b d e : ℕ) → a < m → b < m → d < m → e < m → Below m (flatten (quad_of split a b d e))
below-quad Capped m a b d e la lb ld le = (le, (lb, (la, (ld, (le, (la, tt))))))
below-quad Torus m a b d e la lb ld le = (la, (lb, (ld, (le, (ld, (lb, tt))))))
below-quad Tube m a b d e la lb ld le = (la, (le, (lb, (la, (ld, (le, tt))))))
below-quad Ribbon m a b d e la lb ld le = (la, (lb, (ld, (lb, (le, (ld, tt))))))

pub below_row : (split : Split) (round : Chain) (n m low high : ℕ) → low + points_of round n ≤ m
    → high + points_of round n ≤ m → Below m (flatten (row_triangles split round n low high))
below_row split round n m low high l h =
    subst (λ (r : List ℕ). Below m r) (sym (flatten-blocks n (quad_at split round n low high)))
    (below-blocks m n (numbers (quad_at split round n low high)) (λ i less.
    let j = after_of round n i in
    let here = points-bounds round n in
    let next = after-lt round n i less in
    below-quad split m (low + i) (low + j) (high + i) (high + j) (omega arith) (omega arith) (omega arith) (omega arith)))
