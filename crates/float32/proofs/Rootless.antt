-- The patterns from the infinity's on, save its own and that of -0, are those of values with no
-- root: NaNs, and numbers below zero. Assumes nothing.
use Rattle.std.proofs.Common.{◌≡◌, refl, sym, ap, ◌∙◌, subst, ℕ, zero, suc, ◌+◌, ◌*◌, ◌/◌, ◌%◌, ◌^◌, ◌≤◌, ◌<◌, lt_irrefl, mul-pos, zero-mul, eq-zero-or-pos, arith, Bool, true, false, cond, inl, inr, T, leb, eqb, le→leb, pow_pos, Float}
use Rattle.std.specs.Float.{nan, inf, fin, binary32}
use Rattle.std.specs.Float.Ieee.{up, odd, of_fields, of_bits}
use Rattle.std.specs.Float.Ieee.Fits.{down_pos}
use Rattle.std.specs.Float.Ieee.Bits.{is_true}
use Rattle.std.specs.Float.Ieee.Exact.{HasValue, odd_sign}
use Rattle.float32.specs.Root.{root_of}
use Rattle.float32.proofs.NanPatterns.{nan-bits}
use Rattle.float32.proofs.Patterns.{of_bits_is}

-- ---- the sign set, and not all else zero: below zero, or a NaN
neg-at : (x : Float) (a c : ℕ) → 0 < a → HasValue x true a c → root_of x ≡ nan
unfolding root_of
neg-at nan a c P v = absurd v
neg-at (inf s) a c P v = absurd v
neg-at (fin false m e) a c P v = absurd (subst T (sym v.0) tt)
neg-at (fin true zero e) a c P v = absurd (lt_irrefl 0 (subst (λ (y : ℕ). 0 < y) (sym v.1 ∙ ap (λ (y : ℕ). y * c) (zero-mul (up e)) ∙ zero-mul c) (mul-pos P (down_pos e))))
neg-at (fin true (suc m) e) a c P v = refl

odd-neg : (q k : ℕ) → 0 < q → root_of (odd 24 true q k 149) ≡ nan
odd-neg q k P = neg-at (odd 24 true q k 149) (q * 2 ^ k) (2 ^ 149) (mul-pos P (pow_pos k)) (odd_sign 24 true q k 149)

at-inf : root_of (inf true) ≡ nan
unfolding root_of
at-inf = refl

at-nan : root_of nan ≡ nan
unfolding root_of
at-nan = refl

fields_neg : (x t : ℕ) → 0 < x + t → root_of (of_fields binary32 true x t) ≡ nan
unfolding of_fields
fields_neg zero t P = odd-neg t 0 (omega arith)
fields_neg (suc x) t P = go (eqb (suc x) 255) (eqb t 0)
  where
    go : (a b : Bool) → root_of (cond a (cond b (inf true) nan) (odd 24 true (8388608 + t) x 149)) ≡ nan
    go true true = at-inf
    go true false = at-nan
    go false b = odd-neg (8388608 + t) x (omega arith)

pub negative : (b : ℕ) → 2147483648 < b → b < 4294967296 → root_of (of_bits binary32 b) ≡ nan
negative b l u =
    ap root_of (of_bits_is b ∙ ap (λ (s : Bool). of_fields binary32 s (b % 2147483648 / 8388608) (b % 8388608)) (is_true (leb 2147483648 b) (le→leb 2147483648 b (omega arith))))
    ∙ fields_neg (b % 2147483648 / 8388608) (b % 8388608) (omega arith)

pub no-root : (b : ℕ) → 2139095040 ≤ b → (b ≡ 2147483648 → ⊥) → (b ≡ 2139095040 → ⊥) → b < 4294967296
    → root_of (of_bits binary32 b) ≡ nan
no-root b l z i u =
    elim (eq-zero-or-pos (b / 2147483648)) [
      | inl h ↦ ap root_of (nan-bits binary32 b (omega arith)) ∙ at-nan
      | inr h ↦ negative b (omega arith) u
    ]
