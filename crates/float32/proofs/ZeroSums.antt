-- What a sum of floats times 0.0 tells: it is a zero where all of them are finite, and a NaN where
-- one is not. Assumes nothing.
use Rattle.std.proofs.Common.{◌≡◌, refl, sym, ap, ◌∙◌, subst, Bool, true, false, ◌&&◌, ℕ, ◌+◌, ◌*◌, ◌<◌, ℤ, pos, Float, add-one, arith}
use Rattle.std.specs.Float.{nan, inf, fin, binary32}
use Rattle.std.specs.Float.Ieee.{unlike, up, down, round, add, mul, eq, of_bits}
use Rattle.std.specs.Float.Ieee.Fits.{down_pos}
use Rattle.std.specs.Float.Ieee.Scale.{finite, round_same}
use Rattle.laws.specs.Every.{every}
use Rattle.float32.specs.Lanes.{sum_after}
use Rattle.float32.proofs.Nans.{add-nan}

-- where `all` says whether all floats that were added are finite
abbrev pub Tells : Bool → Float → Type 0
Tells true sum = (sign : Bool) × (sum ≡ fin sign 0 (pos 0))
Tells false sum = sum ≡ nan

-- the code's 0.0
abbrev zero : Float
zero = of_bits binary32 0

zero-is : zero ≡ fin false 0 (pos 0)
unfolding of_bits
zero-is = refl

-- ---- x times 0.0
round-zero : (s : Bool) (den : ℕ) → 0 < den → round binary32 s 0 den ≡ fin s 0 (pos 0)
unfolding round
round-zero s den h = round_same binary32 s 0 den 0 1 h (omega arith) (omega arith)

fin-times-zero : (s : Bool) (m : ℕ) (e : ℤ) → mul binary32 (fin s m e) zero ≡ fin (unlike s false) 0 (pos 0)
unfolding mul
fin-times-zero s m e =
    let none : m * up e * (0 * 1) ≡ 0 = omega arith in
    ap (mul binary32 (fin s m e)) zero-is
    ∙ ap (λ (n : ℕ). round binary32 (unlike s false) n (down e * 1)) none
    ∙ round-zero (unlike s false) (down e * 1) (omega (arith, down_pos e))

inf-times-zero : (s : Bool) → mul binary32 (inf s) zero ≡ nan
unfolding mul
inf-times-zero s = ap (mul binary32 (inf s)) zero-is

nan-times : (y : Float) → mul binary32 nan y ≡ nan
unfolding mul
nan-times y = refl

-- ---- the sum
zero-plus-zero : (s t : Bool) → (sign : Bool) × (add binary32 (fin s 0 (pos 0)) (fin t 0 (pos 0)) ≡ fin sign 0 (pos 0))
unfolding add
zero-plus-zero true true = (true, refl)
zero-plus-zero true false = (false, refl)
zero-plus-zero false true = (false, refl)
zero-plus-zero false false = (false, refl)

nan-plus : (y : Float) → add binary32 nan y ≡ nan
unfolding add
nan-plus y = refl

-- one float more
tells-after : (all : Bool) (sum x : Float) → Tells all sum → Tells (all && finite x) (sum_after sum x)
tells-after false sum x tells = ap (λ (s : Float). add binary32 s (mul binary32 x zero)) tells ∙ nan-plus (mul binary32 x zero)
tells-after true sum nan tells = ap (add binary32 sum) (nan-times zero) ∙ add-nan binary32 sum
tells-after true sum (inf t) tells = ap (add binary32 sum) (inf-times-zero t) ∙ add-nan binary32 sum
tells-after true sum (fin t m e) tells =
    let zeros = zero-plus-zero tells.0 (unlike t false) in (
      zeros.0,
      ap (λ (s : Float). add binary32 s (mul binary32 (fin t m e) zero)) tells.1
          ∙ ap (add binary32 (fin tells.0 0 (pos 0))) (fin-times-zero t m e)
          ∙ zeros.1,
    )

-- the same of the first i floats of a lane
pub tells-more : (f : ℕ → Bool) (i : ℕ) (sum next x : Float) → Tells (every i f) sum → f i ≡ finite x
    → next ≡ sum_after sum x → Tells (every (i + 1) f) next
tells-more f i sum next x tells here is =
    subst (λ (s : Float). Tells (every (i + 1) f) s) (sym is)
    (subst (λ (b : Bool). Tells b (sum_after sum x)) longer (tells-after (every i f) sum x tells))
  where
    longer : every i f && finite x ≡ every (i + 1) f
    longer = ap (λ (b : Bool). every i f && b) (sym here) ∙ ap (λ (n : ℕ). every n f) (sym (add-one i))

-- ---- a comparison with 0.0 finds out
zero-equals : (s : Bool) → eq (fin s 0 (pos 0)) zero ≡ true
unfolding eq
zero-equals true = ap (eq (fin true 0 (pos 0))) zero-is
zero-equals false = ap (eq (fin false 0 (pos 0))) zero-is

nan-differs : eq nan zero ≡ false
unfolding eq
nan-differs = refl

pub told : (all : Bool) (sum : Float) → Tells all sum → eq sum zero ≡ all
told true sum tells = ap (λ (s : Float). eq s zero) tells.1 ∙ zero-equals tells.0
told false sum tells = ap (λ (s : Float). eq s zero) tells ∙ nan-differs
