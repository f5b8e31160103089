-- Which value the test for a NaN finds, and which bit patterns are a NaN's. Assumes nothing.
use Rattle.std.proofs.Common.{◌≡◌, refl, sym, ◌∙◌, subst, true, ℕ, ◌*◌, ◌%◌, ◌<◌, lt-ltb, T, Float}
use Rattle.std.specs.Float.{nan, inf, fin, Format, binary32}
use Rattle.std.specs.Float.Ieee.{hid, ones, top, is_nan, of_bits}
use Rattle.std.specs.Float.Ieee.Bits.{nan_bits_is, nan_bits_above}

pub is-nan : (x : Float) → is_nan x ≡ true → x ≡ nan
unfolding is_nan
is-nan nan h = refl
is-nan (inf s) h = absurd (subst T (sym h) tt)
is-nan (fin s m e) h = absurd (subst T (sym h) tt)

-- the patterns above the infinity's, without the sign
pub nan-bits : (f : Format) (b : ℕ) → ones f * hid f < b % top f → of_bits f b ≡ nan
nan-bits f b u =
    is-nan (of_bits f b) (sym (nan_bits_is f b) ∙ nan_bits_above f b ∙ lt-ltb (ones f * hid f) (b % top f) u)

-- what the code writes for a NaN
pub nan-pattern : of_bits binary32 0x7FC0_0000 ≡ nan
unfolding of_bits
nan-pattern = refl
