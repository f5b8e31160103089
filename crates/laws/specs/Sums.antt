-- Sums of the first n numbers: "the sum before it", "the sums of their counts" (document 01,
-- 'Refused, and through whom' and 'Frames and vertices'). Definitions only.
use Rattle.std.specs.Prelude.{ℕ, zero, suc, ◌+◌}

-- f 0 + f 1 + .. + f (n - 1)
abbrev pub sum_below : ℕ → (ℕ → ℕ) → ℕ
sum_below zero f = 0
sum_below (suc n) f = sum_below n f + f n
