-- The pattern of g * 2 ^ k of the smallest value, for a g of 24 digits or 2 ^ 24. Assumes nothing.
use Rattle.std.proofs.Common.{◌≡◌, refl, sym, ap, ◌∙◌, subst, inl, inr, ℕ, suc, ◌+◌, ◌-◌, ◌*◌, ◌/◌, ◌^◌, ◌≤◌, ◌<◌, le_antisymm, le_trans, le_of_eq, lt_of_le_of_lt, lt_of_lt_of_le, lt_of_not-le, not-le_of_lt, eq-or-lt_of_le, mul-le-mul, mul-le-mul_right, mul_assoc, mul-div_cancel, arith, Bool, true, false, cond, T, ltb, lt→ltb, lit<, lit≤, pow_pos, pow_mono, pow-add, Float}
use Rattle.std.proofs.Math.Nat.{pow-succ'}
use Rattle.std.specs.Float.{nan, inf, fin, binary32}
use Rattle.std.specs.Float.Ieee.{up, down, size, odd, units, to_bits, of_bits, fits}
use Rattle.std.specs.Float.Ieee.Digits.{size-lt, size-le}
use Rattle.std.specs.Float.Ieee.Fits.{odd-fits, down_pos}
use Rattle.std.specs.Float.Ieee.Exact.{HasValue, units_val}
use Rattle.std.specs.Float.Ieee.Bits.{of_bits-to_bits}

-- ---- how many places stand below the 24 leading digits
size_is : (n j : ℕ) → 2 ^ j ≤ n → n < 2 ^ suc j → size n ≡ suc j
size_is n j l u = le_antisymm (size-le n (suc j) u) (lt_of_not-le (λ (g : size n ≤ j). not-le_of_lt (lt_of_lt_of_le (size-lt n) (pow_mono g)) l))

pub places-below : (n k : ℕ) → 8388608 * 2 ^ k ≤ n → n < 16777216 * 2 ^ k → size n - 24 ≡ k
places-below n k l u =
    ap (λ (x : ℕ). x - 24)
    (size_is n (23 + k) (le_trans (le_of_eq (pow-add 2 23 k)) l) (lt_of_lt_of_le u (le_of_eq (sym (pow-add 2 24 k) ∙ ap (λ (x : ℕ). 2 ^ x) next))))
    ∙ less
  where
    next : 24 + k ≡ suc (23 + k)
    next = omega arith

    less : suc (23 + k) - 24 ≡ k
    less = omega arith

-- ---- the two fields of the pattern, from the number n of units
pub whole-units : (a n d : ℕ) → 0 < d → a ≡ n * d → a / d ≡ n
whole-units a n d D e = ap (λ (x : ℕ). x / d) e ∙ mul-div_cancel n D

fields : (n k g : ℕ) → n ≡ g * 2 ^ k → 8388608 ≤ g → g < 16777216
    → (size n - 24) * 8388608 + n / 2 ^ (size n - 24) ≡ k * 8388608 + g
fields n k g e l u =
    let p = 2 ^ k in
    let P : 0 < p = pow_pos k in
    let a : 8388608 * p ≤ g * p = mul-le-mul_right p l in
    let b : suc g * p ≤ 16777216 * p = mul-le-mul_right p u in
    let s : size n - 24 ≡ k = places-below n k (omega arith) (omega arith) in
    ap (λ (x : ℕ). x * 8388608 + n / 2 ^ x) s ∙ ap (λ (x : ℕ). k * 8388608 + x) (whole-units n g p P e)

-- 2 ^ 24 has a digit more, and its leading one adds the one that is missing in the field
fields_up : (n k g : ℕ) → n ≡ g * 2 ^ k → 8388608 ≤ g → g ≤ 16777216
    → (size n - 24) * 8388608 + n / 2 ^ (size n - 24) ≡ k * 8388608 + g
fields_up n k g e l u =
    elim (eq-or-lt_of_le u) [
      | inl s ↦
          fields n (suc k) 8388608 (e ∙ ap (λ (x : ℕ). x * 2 ^ k) s ∙ twice) (lit≤ tt) (lit< tt) ∙ carry ∙ ap (λ (x : ℕ). k * 8388608 + x) (sym s)
      | inr h ↦ fields n k g e l h
    ]
  where
    twice : 16777216 * 2 ^ k ≡ 8388608 * 2 ^ suc k
    twice = mul_assoc 8388608 2 (2 ^ k) ∙ ap (λ (x : ℕ). 8388608 * x) (sym (pow-succ' 2 k))

    carry : suc k * 8388608 + 8388608 ≡ k * 8388608 + 16777216
    carry = omega arith

bits_at : (x : Float) (k g : ℕ) → 8388608 ≤ g → g ≤ 16777216 → HasValue x false (g * 2 ^ k) (2 ^ 149)
    → to_bits binary32 x ≡ k * 8388608 + g
unfolding to_bits
bits_at nan k g l u v = absurd v
bits_at (inf s) k g l u v = absurd v
bits_at (fin t m e) k g l u v =
    let n = m * up e * 2 ^ 149 / down e in
    ap (λ (b : Bool). cond b 2147483648 0 + (size n - 24) * 8388608 + n / 2 ^ (size n - 24)) v.0
    ∙ drop ((size n - 24) * 8388608) (n / 2 ^ (size n - 24))
    ∙ fields_up n k g (whole-units (m * up e * 2 ^ 149) (g * 2 ^ k) (down e) (down_pos e) v.1) l u
  where
    drop : (a b : ℕ) → 0 + a + b ≡ a + b
    drop a b = omega arith

-- ---- a value below the infinity is that of its pattern
in-range : (k g : ℕ) → g ≤ 16777216 → k ≤ 190 → g * 2 ^ k < 2 ^ 277
in-range k g u h = lt_of_le_of_lt (mul-le-mul u (pow_mono h)) (lit< tt)

units-fits : (k g : ℕ) → g ≤ 16777216 → k ≤ 190 → T (fits binary32 (units binary32 false g k))
unfolding units
units-fits k g u h =
    subst (λ (x : Float). T (fits binary32 x))
    (sym (cond_yes (ltb (g * 2 ^ k) (2 ^ 277)) (odd 25 false g k 149) (inf false) (lt→ltb (g * 2 ^ k) (2 ^ 277) (in-range k g u h))))
    (odd-fits binary32 25 false g k (lt_of_le_of_lt u (lit< tt)) u (in-range k g u h))
  where
    cond_yes : {X : Type 0} (b : Bool) (x y : X) → T b → cond b x y ≡ x
    cond_yes true x y h = refl
    cond_yes false x y h = absurd h

pub units-bits : (k g : ℕ) → 8388608 ≤ g → g ≤ 16777216 → k ≤ 190
    → units binary32 false g k ≡ of_bits binary32 (k * 8388608 + g)
units-bits k g l u h =
    sym (of_bits-to_bits binary32 (units binary32 false g k) (units-fits k g u h))
    ∙ ap (of_bits binary32) (bits_at (units binary32 false g k) k g l u (units_val binary32 false g k (in-range k g u h)))
