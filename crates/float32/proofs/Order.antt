-- What the library's laws of the order of floats ask of a value: that it is not a NaN.
-- Assumes nothing.
use Rattle.std.proofs.Common.{◌≡◌, true, Float}
use Rattle.std.proofs.lemmas.Bool.{false≢true}
use Rattle.std.specs.Float.{nan, inf, fin, NotNan}
use Rattle.std.specs.Float.Ieee.{is_nan}
use Rattle.std.specs.Float.Ieee.Scale.{finite}

pub finite-not-nan : (x : Float) → finite x ≡ true → NotNan x
unfolding is_nan
finite-not-nan nan f = absurd (false≢true f)
finite-not-nan (inf s) f = tt
finite-not-nan (fin s m e) f = tt
