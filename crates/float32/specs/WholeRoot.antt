-- The whole part of a square root, by comparing squares (document 01, 'Arithmetic', Root: "defined
-- over whole numbers by comparing squares").
use Rattle.std.specs.Prelude.{ℕ, zero, suc, ◌+◌, ◌-◌, ◌*◌, ◌/◌, ◌^◌, ◌≤◌, ◌<◌, ◌≡◌}
use Rattle.std.specs.Prelude.{Bool, true, false, not, cond, T, leb}
use Rattle.std.proofs.Common.{sym, subst, lt_of_lt_of_le, arith, leb→le, lit≤}
use Rattle.std.proofs.Math.Nat.{pow-le-pow_left}
use Rattle.std.proofs.Math.Dec.{nleb→lt}
use Rattle.std.specs.Float.Ieee.{size}
use Rattle.std.specs.Float.Ieee.Digits.{size-lt}

-- The largest r with r * r ≤ n, for an n below 4 ^ d, a binary digit at a time: with r that of
-- n / 4, it is 2 * r + 1 or 2 * r.
unfoldable pub root_digits : ℕ → ℕ → ℕ
root_digits zero n = 0
root_digits (suc d) n = let t = 2 * root_digits d (n / 4) + 1 in cond (leb (t * t) n) t (t - 1)

-- The largest r with r * r ≤ n. It has at most as many digits as n.
unfoldable pub whole_root : ℕ → ℕ
whole_root n = root_digits (size n) n

-- r is the largest number whose square is at most n
pub record IsRoot (n r : ℕ) : Type 0 where
  pub under : r * r ≤ n
  pub over : n < (r + 1) * (r + 1)

next-digit : (n r : ℕ) (b : Bool) → (T b → (2 * r + 1) * (2 * r + 1) ≤ n)
    → (T (not b) → n < (2 * r + 1) * (2 * r + 1)) → IsRoot (n / 4) r
    → IsRoot n (cond b (2 * r + 1) (2 * r + 1 - 1))
next-digit n r true y x i = let h = y tt in let u = i.over in record { under = h; over = omega arith }
next-digit n r false y x i =
    let h = x tt in
    let u = i.under in
    let e : 2 * r + 1 - 1 ≡ 2 * r = omega arith in
    subst (λ (z : ℕ). IsRoot n z) (sym e) (record { under = omega arith; over = omega arith })

digits_are : (d n : ℕ) → n < 4 ^ d → IsRoot n (root_digits d n)
unfolding root_digits
digits_are zero n h = record { under = omega arith; over = omega arith }
digits_are (suc d) n h =
    let r = root_digits d (n / 4) in
    let t = 2 * r + 1 in
    next-digit n r (leb (t * t) n) (leb→le (t * t) n) (nleb→lt (t * t) n)
    (digits_are d (n / 4) (omega arith))

-- `whole_root` is what it is called
pub whole_root-is : (n : ℕ) → IsRoot n (whole_root n)
unfolding whole_root
whole_root-is n = digits_are (size n) n (lt_of_lt_of_le (size-lt n) (pow-le-pow_left (lit≤ tt) (size n)))
