-- The tables that the writers along one curve share: the directions of its segments, and ez at its
-- vertices between two segments. Definitions only.
use Rattle.std.specs.Prelude.{◌≡◌, List, ℕ, ◌-◌, ◌≤◌, ◌<◌, Float, length}
use Rattle.surface.specs.declared.grid.Chain.{Chain}
use Rattle.surface.specs.declared.grid.Chain.TheVariants.{Open, Closed}
use Rattle.vec3.specs.Points.{point_in}
use Rattle.vec3.specs.declared.points.Point.{Point}
use Rattle.curve.specs.Segments.{vertices_in, segments_of, segment_direction}
use Rattle.rings.specs.Axes.{between_of}

-- the directions of a curve's segments
pub record DirectionTable (chain : Chain) (count : ℕ) (c : List Float) (table : List Point) : Type 0 where
  pub room : count ≤ length table
  pub direction : (k : ℕ) → k < count → point_in table k ≡ segment_direction chain count c k

-- What the writers ask of a curve and its table: a segment at least, and no more vertices than are
-- permitted ("vertices outside 2 to 4,096 (torus 3 to 4,096 ..)", document 01, of 10).
pub record SweptCurve (chain : Chain) (c : List Float) (directions : List Point) : Type 0 where
  pub segment : 1 ≤ segments_of chain (vertices_in c)
  pub most : vertices_in c ≤ 4096
  pub table : DirectionTable chain (segments_of chain (vertices_in c)) c directions

abbrev pub OpenCurve : List Float → List Point → Type 0
OpenCurve c directions = SweptCurve Open c directions

abbrev pub ClosedCurve : List Float → List Point → Type 0
ClosedCurve c directions = SweptCurve Closed c directions

-- ez at vertex g between two segments: on an open curve "inside the normalised sum of the two
-- normalised segments", on a loop "the segment leaving the vertex"
abbrev pub ez_between : Chain → ℕ → List Float → ℕ → Point
ez_between Open m c g = between_of (segment_direction Open m c (g - 1)) (segment_direction Open m c g)
ez_between Closed N c g = segment_direction Closed N c g

-- a table of them, the one at vertex g at index g
pub record EzTable (chain : Chain) (count : ℕ) (c : List Float) (table : List Point) : Type 0 where
  pub room : count ≤ length table
  pub between : (g : ℕ) → 1 ≤ g → g < count → point_in table g ≡ ez_between chain count c g
