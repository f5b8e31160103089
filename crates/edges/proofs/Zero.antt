-- A count tested for 0. Assumes nothing.
use Rattle.std.proofs.Common.{◌≡◌, refl, ℕ, zero, suc, ◌≤◌, ◌<◌, arith}
use Rattle.edges.specs.Edges.{is_zero}

pub is_zero-le : (k : ℕ) → is_zero k ≤ 1
is_zero-le zero = omega arith
is_zero-le (suc k) = omega arith

pub is_zero-no : (k : ℕ) → is_zero k ≡ 0 → 0 < k
is_zero-no zero h = absurd (omega arith)
is_zero-no (suc k) h = omega arith

pub is_zero-yes : (k : ℕ) → 1 ≤ is_zero k → k ≡ 0
is_zero-yes zero h = refl
is_zero-yes (suc k) h = absurd (omega arith)

pub is_zero-pos : (k : ℕ) → 0 < k → is_zero k ≡ 0
is_zero-pos zero h = omega arith
is_zero-pos (suc k) h = refl

pub is_zero-zero : (k : ℕ) → k ≡ 0 → is_zero k ≡ 1
is_zero-zero zero h = refl
is_zero-zero (suc k) h = absurd (omega arith)
