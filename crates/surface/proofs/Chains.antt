-- Bounds on the points of a chain, and its steps to the next number. Assumes nothing.
use Rattle.std.proofs.Common.{◌≡◌, refl, sym, ap, ◌∙◌, ℕ, ◌+◌, ◌-◌, ◌%◌, ◌≤◌, ◌<◌, mod-lt}
use Rattle.std.proofs.Common.{mod-eq_of_lt, arith}
use Rattle.std.proofs.Math.Nat.{mod_self}
use Rattle.surface.specs.Grid.{after_of, points_of, straight_of}
use Rattle.surface.specs.declared.grid.Chain.{Chain}
use Rattle.surface.specs.declared.grid.Chain.TheVariants.{Open, Closed}

-- a step leads to a point of the chain
pub after-lt : (chain : Chain) (n i : ℕ) → i < n → after_of chain n i < points_of chain n
after-lt Open n i h = omega arith
after-lt Closed n i h = mod-lt (i + 1) (omega arith)

-- each step begins at a point, and there is at most one more
pub points-bounds : (chain : Chain) (n : ℕ) → (n ≤ points_of chain n) × (points_of chain n ≤ n + 1)
points-bounds Open n = (omega arith, omega arith)
points-bounds Closed n = (omega arith, omega arith)

pub straight-after : (chain : Chain) (n i : ℕ) → i < straight_of chain n → i + 1 ≡ after_of chain n i
straight-after Open n i h = refl
straight-after Closed n i h = sym (mod-eq_of_lt (omega arith))

-- a step that is left over is the last one, and leads to the first point
pub last-after : (chain : Chain) (n : ℕ) → straight_of chain n < n
    → (straight_of chain n + 1 ≡ n) × (0 ≡ after_of chain n (straight_of chain n))
last-after Open n h = absurd (omega arith)
last-after Closed n h =
    let last : n - 1 + 1 ≡ n = omega arith in
    (last, sym (ap (λ (k : ℕ). k % n) last ∙ mod_self n))
