-- Document 01's stand-ins for what the source takes from `del_geo_core` and the float library
-- ('Kept from the Rust, and written anew': "one for an angle with its sine and cosine, one for a
-- rotation with its application"; 'Arithmetic' has the first frame), in the order of
-- tests/src/del_msh/del_geo_core.rs. Definitions only.
use Rattle.std.specs.Prelude.{Bool, false, cond, ℕ, ◌*◌, Float}
use Rattle.std.specs.Float.Ieee.{neg}
use Rattle.vec3.specs.Points.{sum_of, difference_of, scaled, dot_of, cross_of, normalised}
use Rattle.vec3.specs.Turns.{turn_of}
use Rattle.vec3.specs.Frames.{first_frame, transported}
use Rattle.vec3.specs.declared.points.Point.{Point}

-- An angle is k/n turn: `two * pi` of the source is `TAU`, a whole turn, and `pi * half` is
-- `FRAC_PI_2`, a quarter. Products and quotients with whole numbers stay exact, so that cosine
-- and sine are those of turn(k, n) for the very k and n that the source's expression is made of.
-- Of a negative angle the sine is negated (document 02, No. 1).
pub record Angle : Type 0 where
  pub k : ℕ
  pub n : ℕ
  pub negative : Bool

abbrev pub TAU : Angle
TAU = record { k = 1; n = 1; negative = false }

abbrev pub FRAC-PI-2 : Angle
FRAC-PI-2 = record { k = 1; n = 4; negative = false }

abbrev pub mul : Angle → ℕ → Angle
mul angle factor = record { k = angle.k * factor; n = angle.n; negative = angle.negative }

abbrev pub div : Angle → ℕ → Angle
div angle divisor = record { k = angle.k; n = angle.n * divisor; negative = angle.negative }

unfoldable pub cos : Angle → Float
cos angle = (turn_of angle.k angle.n).cos

unfoldable pub sin : Angle → Float
sin angle = let s = (turn_of angle.k angle.n).sin in cond angle.negative (neg s) s

-- vec3: operations on three floats, under the names of the source
abbrev pub add : Point → Point → Point
add = sum_of

abbrev pub sub : Point → Point → Point
sub = difference_of

abbrev pub scale : Point → Float → Point
scale = scaled

abbrev pub dot : Point → Point → Float
dot = dot_of

abbrev pub cross : Point → Point → Point
cross = cross_of

abbrev pub normalize : Point → Point
normalize = normalised

-- "First frame of direction v". Nobody asks for the second axis.
abbrev pub basis-xy-from-basis-z : Point → Point
basis-xy-from-basis-z vec-z = (first_frame vec-z).ex

-- mat3_col_major: a rotation from one direction to another, both "segment directions normalised",
-- and its application, the transport step
pub record Rotation : Type 0 where
  pub from : Point
  pub to : Point

abbrev pub minimum-rotation-matrix : Point → Point → Rotation
minimum-rotation-matrix from to = record { from = normalised from; to = normalised to }

-- The same of two directions that are normalised already, as `match_frames_of_two_ends` has them:
-- normalised twice they would have other bits.
abbrev pub minimum-rotation-matrix-normalised : Point → Point → Rotation
minimum-rotation-matrix-normalised from to = record { from = from; to = to }

abbrev pub mult-vec : Rotation → Point → Point
mult-vec rot frame = (transported (record { ex = frame }) rot.from rot.to).ex
