-- The axes at a vertex of a curve (document 01, 'Frames and vertices'). Definitions only.
use Rattle.vec3.specs.Points.{sum_of, cross_of, normalised}
use Rattle.vec3.specs.declared.points.Point.{Point}
use Rattle.vec3.specs.declared.frames.Frame.{Frame}
use Rattle.rings.specs.declared.axes.Axes.{Axes}

-- "ex is the frame; .. ey = cross(ez, ex)"
unfoldable pub axes_at : Point → Frame → Point → Axes
axes_at p frame ez = record { origin = p; ex = frame.ex; ey = cross_of ez frame.ex; ez = ez }

-- ez at a vertex of an open curve between segments along u and w: "inside the normalised sum of
-- the two normalised segments"
unfoldable pub between_of : Point → Point → Point
between_of u w = normalised (sum_of u w)
