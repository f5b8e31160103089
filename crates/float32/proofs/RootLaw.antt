-- The root of an `f32` above zero, from the whole number nearest to the root of a square of 47 or
-- 48 digits. Assumes nothing.
use Rattle.std.proofs.Common.{◌≡◌, refl, sym, ap, ◌∙◌, subst, inl, inr, ℕ, zero, suc, ◌+◌, ◌-◌, ◌*◌, ◌/◌, ◌^◌, ◌≤◌, ◌<◌, lt_irrefl, lt_of_not-le, le_of_suc-le-suc, zero-mul, eq-or-lt_of_le, mul-le-mul_right, mul-pos, mul_assoc, div-mul-le_self, arith, true, false, T, pow_pos, pow-add, Float}
use Prim.Native.Nat.{compare}
use Rattle.std.proofs.Math.Nat.{lt-div-mul-add}
use Rattle.std.specs.Float.{nan, inf, fin, binary32}
use Rattle.std.specs.Float.Ieee.{up, down, size, nearest, units, of_bits}
use Rattle.std.specs.Float.Ieee.Fits.{down_pos}
use Rattle.std.specs.Float.Ieee.Exact.{HasValue}
use Rattle.float32.specs.WholeRoot.{IsRoot, whole_root, whole_root-is}
use Rattle.float32.specs.Root.{root_of_units, root_of}
use Rattle.float32.specs.Near.{Near, RootBits}
use Rattle.float32.proofs.Squares.{root-le, root-scaled, near-is}
use Rattle.float32.proofs.UnitPatterns.{places-below, whole-units, units-bits}

-- ---- a value of n units
root-at : (x : Float) (n : ℕ) → 0 < n → HasValue x false n (2 ^ 149) → root_of x ≡ root_of_units n
unfolding root_of
root-at nan n P v = absurd v
root-at (inf s) n P v = absurd v
root-at (fin true m e) n P v = absurd (apart v.0)
  where
    apart : true ≡ false → ⊥
    apart h = subst T h tt
root-at (fin false zero e) n P v = absurd (none (n * down e) (mul-pos P (down_pos e)) (sym v.1))
  where
    none : (z : ℕ) → 0 < z → z ≡ zero * up e * 2 ^ 149 → ⊥
    none z h k = lt_irrefl 0 (subst (λ (y : ℕ). 0 < y) (k ∙ ap (λ (y : ℕ). y * 2 ^ 149) (zero-mul (up e)) ∙ zero-mul (2 ^ 149)) h)
root-at (fin false (suc m) e) n P v =
    ap root_of_units (whole-units (suc m * up e * 2 ^ 149) n (down e) (down_pos e) v.1)

-- ---- the root's 24 leading digits and their place
abbrev rounded : ℕ → ℕ → ℕ → Float
rounded w r k = units binary32 false (nearest (r / 2 ^ k) (compare (4 * w) ((2 * (r / 2 ^ k) + 1) * 2 ^ k * ((2 * (r / 2 ^ k) + 1) * 2 ^ k)))) k

root_is : (n : ℕ)
    → root_of_units n ≡ rounded (n * 2 ^ 149) (whole_root (n * 2 ^ 149)) (size (whole_root (n * 2 ^ 149)) - 24)
unfolding root_of_units
root_is n = refl

module _ (w N k r : ℕ) (e : w ≡ N * (2 ^ k * 2 ^ k)) (i : IsRoot w r) (l : 70368744177664 ≤ N) (u : N < 281474976710656) where
  leading : IsRoot N (r / 2 ^ k)
  leading = root-scaled w N (2 ^ k) r (pow_pos k) e i

  dropped : size r - 24 ≡ k
  dropped =
      let q = r / 2 ^ k in
      let p = 2 ^ k in
      let a : 8388608 ≤ q = root-le N 8388608 q (omega arith) leading.over in
      let b : q ≤ 16777215 = root-le N q 16777215 leading.under (omega arith) in
      let c : q * p ≤ r = div-mul-le_self r p in
      let d : r < q * p + p = lt-div-mul-add (pow_pos k) in
      let f : 8388608 * p ≤ q * p = mul-le-mul_right p a in
      let g : q * p ≤ 16777215 * p = mul-le-mul_right p b in
      places-below r k (omega arith) (omega arith)

  rounded-is : (g : ℕ) → Near N g → rounded w r (size r - 24) ≡ units binary32 false g k
  rounded-is g n =
      ap (rounded w r) dropped
      ∙ ap (λ (x : ℕ). units binary32 false x k) (near-is w N (2 ^ k) (r / 2 ^ k) g (pow_pos k) e leading n)

-- ---- the nearest root has 24 digits, or is 2 ^ 24
near-low : (N g : ℕ) → 70368744177664 ≤ N → Near N g → 8388608 ≤ g
near-low N g l n = let h = n.high in root-le N 8388608 g (omega arith) (omega arith)

pub near-high : (N g : ℕ) → N < 281474976710656 → Near N g → g ≤ 16777216
near-high N g u n = le_of_suc-le-suc (lt_of_not-le (λ (h : 16777217 ≤ g). far (mul-le-mul_right g h) h))
  where
    far : 16777217 * g ≤ g * g → 16777217 ≤ g → ⊥
    far a h = let l = n.low in omega arith

-- ---- the law: x is n units, and n * 2 ^ 149 is N * 4 ^ k
root-law : (x : Float) (n N k g : ℕ) → 0 < n → HasValue x false n (2 ^ 149) → n * 2 ^ 149 ≡ N * (2 ^ k * 2 ^ k)
    → 70368744177664 ≤ N → N < 281474976710656 → k ≤ 190
    → Near N g → root_of x ≡ of_bits binary32 (k * 8388608 + g)
root-law x n N k g P v e l u h near =
    root-at x n P v
    ∙ root_is n
    ∙ rounded-is (n * 2 ^ 149) N k (whole_root (n * 2 ^ 149)) e (whole_root-is (n * 2 ^ 149)) l u g near
    ∙ units-bits k g (near-low N g l near) (near-high N g u near) h

root-bits-at : (m p a k g : ℕ) → p ≡ a + (k + k) → 70368744177664 ≤ m * 2 ^ a → m * 2 ^ a < 281474976710656
    → k ≤ 190 → Near (m * 2 ^ a) g → RootBits m p (k * 8388608 + g)
root-bits-at m p a k g e l u h near =
    record {
      root-of = λ x n P v w. sym (root-law x n (m * 2 ^ a) k g P v (w ∙ split) l u h near);
      finite = let t = near-high (m * 2 ^ a) g u near in omega arith;
    }
  where
    split : m * 2 ^ p ≡ m * 2 ^ a * (2 ^ k * 2 ^ k)
    split =
        ap (λ (x : ℕ). m * 2 ^ x) e
        ∙ ap (λ (x : ℕ). m * x) (pow-add 2 a (k + k) ∙ ap (λ (x : ℕ). 2 ^ a * x) (pow-add 2 k k))
        ∙ sym (mul_assoc m (2 ^ a) (2 ^ k * 2 ^ k))

-- with 2 ^ 24 or 2 ^ 23 as the factor
pub root-bits : (m o k g : ℕ) → 8388608 ≤ m → m < 16777216 → o ≤ 1 → k ≤ 190
    → Near (m * (16777216 - o * 8388608)) g → RootBits m (24 - o + (k + k)) (k * 8388608 + g)
root-bits m o k g l u b h near =
    elim (eq-or-lt_of_le b) [
      | inl e ↦ root-bits-at m (24 - o + (k + k)) 23 k g (omega arith) (omega arith) (omega arith) h (subst (λ (z : ℕ). Near (m * z) g) (omega arith) near)
      | inr e ↦ root-bits-at m (24 - o + (k + k)) 24 k g (omega arith) (omega arith) (omega arith) h (subst (λ (z : ℕ). Near (m * z) g) (omega arith) near)
    ]
