-- The few facts on products that a loop over rows asks for; omega does the rest. Assumes nothing.
use Rattle.std.specs.Prelude.{◌≡◌, ℕ, ◌+◌, ◌*◌, ◌≤◌, ◌<◌}
use Rattle.std.proofs.Common.{ap, ◌∙◌, subst, suc-mul, mul-le-mul_right, add-one}

-- row g + 1 of rows of n begins n past row g
pub next_row : (g n : ℕ) → (g + 1) * n ≡ g * n + n
next_row g n = ap (λ (k : ℕ). k * n) (add-one g) ∙ suc-mul g n

-- row g of m rows ends within them
pub row_within : (g m n : ℕ) → g < m → g * n + n ≤ m * n
row_within g m n h = subst (λ (k : ℕ). k ≤ m * n) (suc-mul g n) (mul-le-mul_right n h)
