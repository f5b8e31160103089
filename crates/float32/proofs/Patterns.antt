-- The bit patterns of an `f32`: what number each stands for. Assumes nothing.
use Rattle.std.proofs.Common.{◌≡◌, refl, sym, ap, ◌∙◌, subst, ℕ, suc, ◌+◌, ◌-◌, ◌*◌, ◌/◌, ◌%◌, ◌^◌, ◌≤◌, ◌<◌, not-le_of_lt, mod-eq_of_lt, mul-one, mul_assoc, add_comm, arith, Bool, false, cond, T, leb, eqb, leb→le, eqb→eq, pow-add, Float}
use Rattle.std.proofs.Math.Dec.{not_T}
use Rattle.std.specs.Float.{nan, inf, binary32}
use Rattle.std.specs.Float.Ieee.{odd, of_fields, of_bits}
use Rattle.std.specs.Float.Ieee.Bits.{is_false, cond_no}
use Rattle.std.specs.Float.Ieee.Exact.{HasValue, odd_sign}

pub of_bits_is : (b : ℕ)
    → of_bits binary32 b ≡ of_fields binary32 (leb 2147483648 b) (b % 2147483648 / 8388608) (b % 8388608)
unfolding of_bits
of_bits_is b = refl

-- ---- the sign clear
sign_clear : (b : ℕ) → b < 2147483648 → of_bits binary32 b ≡ of_fields binary32 false (b / 8388608) (b % 8388608)
sign_clear b u =
    of_bits_is b
    ∙ ap (λ (s : Bool). of_fields binary32 s (b % 2147483648 / 8388608) (b % 8388608)) (is_false (leb 2147483648 b) (not_T (leb 2147483648 b) (λ (t : T (leb 2147483648 b)). not-le_of_lt u (leb→le 2147483648 b t))))
    ∙ ap (λ (x : ℕ). of_fields binary32 false (x / 8388608) (b % 8388608)) (mod-eq_of_lt u)

under_ones : (t x : ℕ) → suc x < 255 → of_fields binary32 false (suc x) t ≡ odd 24 false (8388608 + t) x 149
unfolding of_fields
under_ones t x h = cond_no (eqb (suc x) 255) (cond (eqb t 0) (inf false) nan) (odd 24 false (8388608 + t) x 149) (not_T (eqb (suc x) 255) (λ (u : T (eqb (suc x) 255)). differ (eqb→eq (suc x) 255 u)))
  where
    differ : suc x ≡ 255 → ⊥
    differ e = omega arith

at_zero : (t : ℕ) → of_fields binary32 false 0 t ≡ odd 24 false t 0 149
unfolding of_fields
at_zero t = refl

-- normal values
pub normal-value : (b : ℕ) → 8388608 ≤ b → b < 2139095040
    → HasValue (of_bits binary32 b) false ((8388608 + b % 8388608) * 2 ^ (b / 8388608 - 1)) (2 ^ 149)
normal-value b h k =
    subst (λ (x : Float). HasValue x false ((8388608 + b % 8388608) * 2 ^ (b / 8388608 - 1)) (2 ^ 149))
    (sym (sign_clear b (omega arith) ∙ ap (λ (x : ℕ). of_fields binary32 false x (b % 8388608)) field ∙ under_ones (b % 8388608) (b / 8388608 - 1) (omega arith)))
    (odd_sign 24 false (8388608 + b % 8388608) (b / 8388608 - 1) 149)
  where
    field : b / 8388608 ≡ suc (b / 8388608 - 1)
    field = omega arith

pub normal-places : (t e : ℕ) → 1 ≤ e → (8388608 + t) * 2 ^ (e - 1) * 2 ^ 149 ≡ (t + 8388608) * 2 ^ (e + 148)
normal-places t e h =
    mul_assoc (8388608 + t) (2 ^ (e - 1)) (2 ^ 149)
    ∙ ap (λ (x : ℕ). (8388608 + t) * x) (sym (pow-add 2 (e - 1) 149) ∙ ap (λ (x : ℕ). 2 ^ x) places)
    ∙ ap (λ (x : ℕ). x * 2 ^ (e + 148)) (add_comm 8388608 t)
  where
    places : e - 1 + 149 ≡ e + 148
    places = omega arith

-- subnormal values
pub small-value : (b : ℕ) → b < 8388608 → HasValue (of_bits binary32 b) false b (2 ^ 149)
small-value b u =
    subst (λ (x : Float). HasValue x false b (2 ^ 149)) (sym (sign_clear b (omega arith) ∙ ap (λ (x : ℕ). of_fields binary32 false x (b % 8388608)) none ∙ ap (of_fields binary32 false 0) (mod-eq_of_lt u) ∙ at_zero b))
    (subst (λ (n : ℕ). HasValue (odd 24 false b 0 149) false n (2 ^ 149)) (mul-one b) (odd_sign 24 false b 0 149))
  where
    none : b / 8388608 ≡ 0
    none = omega arith
