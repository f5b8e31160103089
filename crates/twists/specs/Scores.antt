-- The scores of the twists, an octant at a time. Definitions only.
use Rattle.std.specs.Prelude.{List, ℕ, ◌+◌, ◌*◌, Float, get_or}
use Rattle.std.specs.Float.{nan}
use Rattle.vec3.specs.Points.{plus, times}
use Rattle.twists.specs.Twists.{forward, score_of, twist_at}

-- a·x + b·y, x and y being entry i of two tables
abbrev pub product_sum : Float → Float → List Float → List Float → ℕ → Float
product_sum a b xs ys i = plus (times a (get_or xs i nan)) (times b (get_or ys i nan))

-- the score of forward step j in an octant of the first half turn
abbrev pub forward_score : Float → Float → ℕ → ℕ → Float
forward_score c0 s0 octant j = score_of c0 s0 (forward (512 * octant + j))

-- the score of the twist at place j past `base`
abbrev pub place_score : Float → Float → ℕ → ℕ → Float
place_score c0 s0 base j = score_of c0 s0 (twist_at (base + j))
