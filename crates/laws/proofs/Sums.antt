-- The laws of a sum of the first n numbers. Assumes nothing.
use Rattle.std.specs.Prelude.{◌≡◌, ℕ, zero, suc, ◌+◌, ◌≤◌, ◌<◌}
use Rattle.std.proofs.Common.{sym, ap, ◌∙◌, ⊎_elim, not-suc-le-zero, le_of_suc-le-suc, eq-or-lt_of_le, add-one, arith}
use Rattle.laws.specs.Sums.{sum_below}

-- a turn of a loop that adds
pub sum-next : (i : ℕ) (f : ℕ → ℕ) {s s' x : ℕ} → s ≡ sum_below i f → s' ≡ s + x → x ≡ f i → s' ≡ sum_below (i + 1) f
sum-next i f before is here = is ∙ (λ j. before j + here j) ∙ ap (λ (k : ℕ). sum_below k f) (sym (add-one i))

-- each number ends within the sum of all
pub sum-within : (f : ℕ → ℕ) (i n : ℕ) → i < n → sum_below i f + f i ≤ sum_below n f
sum-within f i zero h = absurd (not-suc-le-zero h)
sum-within f i (suc n) h =
    ⊎_elim
    (λ last.
    let e : sum_below i f + f i ≡ sum_below n f + f n = λ j. sum_below (last j) f + f (last j) in
    omega (arith, e))
    (λ lower. omega (arith, sum-within f i n lower))
    (eq-or-lt_of_le (le_of_suc-le-suc h))
