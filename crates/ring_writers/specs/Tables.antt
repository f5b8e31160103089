-- The table of directions round a ring. Definitions only.
use Rattle.std.specs.Prelude.{◌≡◌, List, ℕ, ◌≤◌, ◌<◌}
use Rattle.vec3.specs.Points.{thrice, point_in}
use Rattle.vec3.specs.Turns.{turn_of}
use Rattle.vec3.specs.declared.points.Point.{Point}

-- The directions round a ring, "(C, Sn) = turn(i, n)" (document 01, 'Frames and vertices'): each
-- cosine three times, and each sine. "n outside 3 to 256" is refused (20), so that 256 of either
-- are enough.
pub record HoldsTurns (n : ℕ) (cosines sines : List Point) : Type 0 where
  pub most : n ≤ 256
  pub cosine : (i : ℕ) → i < n → point_in cosines i ≡ thrice (turn_of i n).cos
  pub sine : (i : ℕ) → i < n → point_in sines i ≡ thrice (turn_of i n).sin
