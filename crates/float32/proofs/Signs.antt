-- A product's sign: it is the same whichever factor is negated. Assumes nothing.
use Rattle.std.proofs.Common.{◌≡◌, refl, ap, Bool, true, false, not, cond, ◌*◌, eqb, Float}
use Rattle.std.specs.Float.{Format, nan, inf, fin}
use Rattle.std.specs.Float.Ieee.{unlike, up, down, round, neg, mul}

unlike-not : (s t : Bool) → unlike (not s) t ≡ unlike s (not t)
unlike-not true true = refl
unlike-not true false = refl
unlike-not false true = refl
unlike-not false false = refl

pub mul-neg : (f : Format) (x y : Float) → mul f (neg x) y ≡ mul f x (neg y)
unfolding mul neg
mul-neg f nan y = refl
mul-neg f (inf s) nan = refl
mul-neg f (inf s) (inf t) = ap inf (unlike-not s t)
mul-neg f (inf s) (fin t n d) = ap (λ b. cond (eqb n 0) nan (inf b)) (unlike-not s t)
mul-neg f (fin s m e) nan = refl
mul-neg f (fin s m e) (inf t) = ap (λ b. cond (eqb m 0) nan (inf b)) (unlike-not s t)
mul-neg f (fin s m e) (fin t n d) =
    ap (λ b. round f b (m * up e * (n * up d)) (down e * down d)) (unlike-not s t)
