-- Open curves (document 01, 'Frames and vertices'), under the names of polyline3.rs: the frame, ez
-- and ey at vertex g of a curve of m segments, for every g, and the ribbon and the tube made of
-- them. Definitions only.
use Rattle.std.specs.Prelude.{cond, List, ◌++◌, ℕ, ◌+◌, ◌-◌, eqb, Float}
use Rattle.laws.specs.Blocks.{blocks}
use Rattle.surface.specs.declared.grid.Chain.TheVariants.{Open}
use Rattle.vec3.specs.Points.{coordinates, sum_of, scaled, cross_of, normalised}
use Rattle.vec3.specs.declared.points.Point.{Point}
use Rattle.vec3.specs.declared.frames.Frame.{Frame}
use Rattle.curve.specs.Segments.{vertex_of, segment_direction}
use Rattle.curve.specs.Framex.{frame_of}
use Rattle.rings.specs.Vertices.{ring_of, tube_vertex}
use Rattle.rings.specs.declared.axes.Axes.{Axes}

-- "frame m a copy of frame m − 1"; the others are those of the segments
unfoldable pub vtx2framex : ℕ → List Float → ℕ → Frame
vtx2framex m c g = cond (eqb g m) (frame_of Open m c (m - 1)) (frame_of Open m c g)

-- "ez at an open curve's ends is its normalised segment, inside the normalised sum of the two
-- normalised segments"
unfoldable pub framez : ℕ → List Float → ℕ → Point
framez m c g =
    cond (eqb g 0) (segment_direction Open m c 0)
    (cond (eqb g m) (segment_direction Open m c (m - 1))
    (normalised (sum_of (segment_direction Open m c (g - 1)) (segment_direction Open m c g))))

-- "ex is the frame", "ey = cross(ez, ex)"
unfoldable pub vtx2framey : ℕ → List Float → ℕ → Point
vtx2framey m c g = cross_of (framez m c g) (vtx2framex m c g).ex

unfoldable pub axes_of : ℕ → List Float → ℕ → Axes
axes_of m c g = record { origin = vertex_of c g; ex = (vtx2framex m c g).ex; ey = vtx2framey m c g; ez = framez m c g }

-- "Tube ring g", for g from 0 to m
abbrev pub tube_ring : ℕ → Float → ℕ → List Float → ℕ → List Float
tube_ring n r m c g = ring_of (tube_vertex (axes_of m c g) r) n

abbrev pub tube_vertices : ℕ → Float → ℕ → List Float → List Float
tube_vertices n r m c = blocks (m + 1) (tube_ring n r m c)

-- Ribbon: "p, then p + ex·width", at each vertex p of the curve.
abbrev pub ribbon_pair : Point → Frame → Float → List Float
ribbon_pair p frame width = coordinates p ++ coordinates (sum_of p (scaled frame.ex width))

abbrev pub ribbon_part : Float → ℕ → List Float → ℕ → List Float
ribbon_part width m c g = ribbon_pair (vertex_of c g) (vtx2framex m c g) width

abbrev pub ribbon_vertices : Float → ℕ → List Float → List Float
ribbon_vertices width m c = blocks (m + 1) (ribbon_part width m c)
