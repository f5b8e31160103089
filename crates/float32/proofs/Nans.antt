-- A product by a NaN and a sum with a NaN are NaNs, in every format: the operations say so in a
-- clause for each case of the other operand. Assumes nothing.
use Rattle.std.proofs.Common.{◌≡◌, refl, Float}
use Rattle.std.specs.Float.{nan, inf, fin, Format}
use Rattle.std.specs.Float.Ieee.{mul, add}

pub mul-nan : (f : Format) (x : Float) → mul f x nan ≡ nan
unfolding mul
mul-nan f nan = refl
mul-nan f (inf s) = refl
mul-nan f (fin s m e) = refl

pub add-nan : (f : Format) (x : Float) → add f x nan ≡ nan
unfolding add
add-nan f nan = refl
add-nan f (inf s) = refl
add-nan f (fin s m e) = refl
