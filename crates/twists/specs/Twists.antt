-- The twist of a torus without a seam (document 02, No. 1). Definitions only.
use Rattle.std.specs.Prelude.{◌≡◌, Bool, true, false, ◌&&◌, cond, ℕ, ◌-◌, ◌*◌, leb, Float}
use Rattle.std.specs.Float.Ieee.{neg, le}
use Rattle.std.specs.Float.Ieee.Scale.{finite}
use Rattle.laws.specs.Every.{every}
use Rattle.vec3.specs.Points.{plus, times, sum_of, scaled, cross_of}
use Rattle.vec3.specs.Turns.{pair, turn_of}
use Rattle.vec3.specs.declared.points.Point.{Point}
use Rattle.vec3.specs.declared.turns.Direction.{Direction}
use Rattle.vec3.specs.declared.frames.Frame.{Frame}
use Rattle.twists.specs.declared.twist.Twist.{Twist}

-- "The twist is k/4096 turn": k is `steps`, or −`steps` where it is `backward`.
abbrev pub forward : ℕ → Twist
forward steps = record { steps = steps; backward = false }

abbrev pub backwards : ℕ → Twist
backwards steps = record { steps = steps; backward = true }

-- k is "any of −2047 to 2048"
abbrev pub is_twist : Twist → Bool
is_twist k = cond k.backward (leb 1 k.steps && leb k.steps 2047) (leb k.steps 2048)

-- "For negative k, the sine of turn(−k, 4096) is negated.": a direction with the sign of k
unfoldable pub signed : Bool → Direction → Direction
signed negative d = pair d.cos (cond negative (neg d.sin) d.sin)

-- the direction of k/4096 turn
unfoldable pub twist_direction : Twist → Direction
twist_direction k = signed k.backward (turn_of k.steps 4096)

-- "whose score c0·cos + s0·sin"
unfoldable pub score_of : Float → Float → Twist → Float
score_of c0 s0 k = plus (times c0 (twist_direction k).cos) (times s0 (twist_direction k).sin)

-- "at k·j/(4096N) turn with the sign of k in the sine"
unfoldable pub share_of : Twist → ℕ → ℕ → Direction
share_of k j N = signed k.backward (turn_of (k.steps * j) (4096 * N))

-- "Frame j becomes frame·sin + cross(direction, frame)·cos"
unfoldable pub twisted_frame : Frame → Point → Direction → Frame
twisted_frame f u d = record { ex = sum_of (scaled f.ex d.sin) (scaled (cross_of u f.ex) d.cos) }

-- "any of −2047 to 2048 whose score .. is at least that of every other k"
pub record Best (c0 s0 : Float) (k : Twist) : Type 0 where
  pub within : is_twist k ≡ true
  pub greatest : (other : Twist) → is_twist other ≡ true → le (score_of c0 s0 other) (score_of c0 s0 k) ≡ true

-- The k of −2047 to 2048 by numbers from 0: 0 to 2048, then −1 to −2047.
unfoldable pub twist_at : ℕ → Twist
twist_at i = cond (leb i 2048) (forward i) (backwards (i - 2048))

-- not "a c0, s0 or score that isn't finite" (of 23)
unfoldable pub scores_finite : Float → Float → Bool
scores_finite c0 s0 = (finite c0 && finite s0) && every 4096 (λ i. finite (score_of c0 s0 (twist_at i)))
