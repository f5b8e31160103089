-- Whole roots and nearest roots: the 24 leading digits of a root, and which of two neighbours is
-- the nearer, when the square is N * p * p. Assumes nothing.
use Rattle.std.proofs.Common.{◌≡◌, refl, sym, ap, ◌∙◌, subst, inl, inr, ℕ, suc, ◌+◌, ◌*◌, ◌/◌, ◌≤◌, ◌<◌, le_antisymm, lt_of_not-le, le_of_suc-le-suc, mul-le-mul, mul-le-mul_left, mul-le-mul_right, mul-pos, le_of_mul-le-mul_right, lt_of_mul-lt-mul_right, div-mul-le_self, eq-or-lt_of_le, arith, not, T, eqb, leb→le, eqb→eq}
use Prim.Native.Nat.{compare, Ordering}
use Rattle.std.proofs.Math.Nat.{lt-div-mul-add}
use Rattle.std.proofs.Math.Dec.{is_le, compare_is_eq, nleb→lt, eqb_refl}
use Rattle.std.proofs.Math.Arith.{lt_of_le-ne}
use Rattle.std.specs.Float.Ieee.{nearest}
use Rattle.float32.specs.WholeRoot.{IsRoot}
use Rattle.float32.specs.Near.{Near}

-- ---- roots are ordered as their squares
pub root-le : (n r s : ℕ) → r * r ≤ n → n < (s + 1) * (s + 1) → r ≤ s
root-le n r s a b = le_of_suc-le-suc (lt_of_not-le (λ (h : suc s ≤ r). clash (mul-le-mul h h)))
  where
    clash : suc s * suc s ≤ r * r → ⊥
    clash h = omega arith

-- ---- the leading digits: the root of N * p * p, without what stands below p, is that of N
pub root-scaled : (w N p r : ℕ) → 0 < p → w ≡ N * (p * p) → IsRoot w r → IsRoot N (r / p)
root-scaled w N p r P e i =
    let q = r / p in
    let a : q * p ≤ r = div-mul-le_self r p in
    let b : r < q * p + p = lt-div-mul-add P in
    let c : r + 1 ≤ (q + 1) * p = omega arith in
    let aa : q * p * (q * p) ≤ r * r = mul-le-mul a a in
    let cc : (r + 1) * (r + 1) ≤ (q + 1) * p * ((q + 1) * p) = mul-le-mul c c in
    let u = i.under in
    let o = i.over in
    let x : q * q * (p * p) ≤ N * (p * p) = omega arith in
    let y : N * (p * p) < (q + 1) * (q + 1) * (p * p) = omega arith in
    record { under = le_of_mul-le-mul_right x (mul-pos P P); over = lt_of_mul-lt-mul_right (p * p) y }

-- ---- what `compare` tells
abbrev Compared : Ordering → ℕ → ℕ → Type 0
Compared Ordering.lt a b = a < b
Compared Ordering.eq a b = a ≡ b
Compared Ordering.gt a b = b < a

compared : (a b : ℕ) → Compared (compare a b) a b
compared a b = go (compare a b) (leb→le a b) (nleb→lt a b) (eqb→eq a b) (λ (e : a ≡ b). subst (λ (x : ℕ). T (eqb a x)) e (eqb_refl a))
  where
    go : (o : Ordering) → (T (is_le o) → a ≤ b) → (T (not (is_le o)) → b < a) → (T (compare_is_eq o) → a ≡ b)
        → (a ≡ b → T (compare_is_eq o)) → Compared o a b
    go Ordering.lt h k e n = lt_of_le-ne (h tt) n
    go Ordering.eq h k e n = e tt
    go Ordering.gt h k e n = k tt

is_lt : (o : Ordering) (a b : ℕ) → Compared o a b → a < b → o ≡ Ordering.lt
is_lt Ordering.lt a b c h = refl
is_lt Ordering.eq a b c h = absurd (omega arith)
is_lt Ordering.gt a b c h = absurd (omega arith)

is_gt : (o : Ordering) (a b : ℕ) → Compared o a b → b < a → o ≡ Ordering.gt
is_gt Ordering.lt a b c h = absurd (omega arith)
is_gt Ordering.eq a b c h = absurd (omega arith)
is_gt Ordering.gt a b c h = refl

-- ---- the nearer of q and q + 1, by the square of twice the middle
pub near-is : (w N p q g : ℕ) → 0 < p → w ≡ N * (p * p) → IsRoot N q → Near N g
    → nearest q (compare (4 * w) ((2 * q + 1) * p * ((2 * q + 1) * p))) ≡ g
near-is w N p q g P e i near =
    elim (eq-or-lt_of_le (root-le N q g i.under up_to)) [
      | inl s ↦ ap (nearest q) (is_lt (compare (4 * w) h2) (4 * w) h2 (compared (4 * w) h2) (lo (subst (λ (x : ℕ). N ≤ x * x + x) (sym s) near.high))) ∙ s
      | inr s ↦
          let t : g ≡ suc q = le_antisymm top s in
          ap (nearest q) (is_gt (compare (4 * w) h2) (4 * w) h2 (compared (4 * w) h2) (hi (subst (λ (x : ℕ). x * x < N + x) t near.low))) ∙ sym t
    ]
  where
    h2 : ℕ
    h2 = (2 * q + 1) * p * ((2 * q + 1) * p)

    up_to : N < (g + 1) * (g + 1)
    up_to = let h = near.high in omega arith

    top : g ≤ suc q
    top = le_of_suc-le-suc (lt_of_not-le (λ (h : suc (suc q) ≤ g). far h (mul-le-mul_right g h) (mul-le-mul_left (q + 1) h)))
      where
        far : suc (suc q) ≤ g → suc (suc q) * g ≤ g * g → (q + 1) * suc (suc q) ≤ (q + 1) * g → ⊥
        far h a b = let l = near.low in let o = i.over in omega arith

    lo : N ≤ q * q + q → 4 * w < h2
    lo h =
        let a : (4 * N + 1) * (p * p) ≤ (2 * q + 1) * (2 * q + 1) * (p * p) = mul-le-mul_right (p * p) (omega arith) in
        let b : 0 < p * p = mul-pos P P in
        omega arith

    hi : suc q * suc q < N + suc q → h2 < 4 * w
    hi h =
        let a : ((2 * q + 1) * (2 * q + 1) + 1) * (p * p) ≤ 4 * N * (p * p) = mul-le-mul_right (p * p) (omega arith) in
        let b : 0 < p * p = mul-pos P P in
        omega arith
