-- The vertices of each kind (document 01, 'Frames and vertices'): of a swept one from the axes at
-- its ring, whose origin is p, of a closed cylinder from its sizes. d = (C, Sn) is the direction
-- of the vertex's place on its ring. Definitions only.
use Rattle.std.specs.Prelude.{List, ℕ, ◌-◌, ◌*◌, Float}
use Rattle.std.specs.Float.{binary32}
use Rattle.std.specs.Float.Ieee.{of_bits, neg}
use Rattle.laws.specs.Blocks.{blocks}
use Rattle.surface.specs.declared.caps.End.{End}
use Rattle.surface.specs.declared.caps.End.TheVariants.{Bottom, Top}
use Rattle.vec3.specs.Points.{plus, times, over, coordinates, sum_of, difference_of, scaled}
use Rattle.vec3.specs.Turns.{whole, turn_of}
use Rattle.vec3.specs.declared.points.Point.{Point}
use Rattle.vec3.specs.declared.turns.Direction.{Direction}
use Rattle.rings.specs.declared.axes.Axes.{Axes}

-- A ring of n vertices: "(C, Sn) = turn(i, n)" for i from 0.
abbrev pub vertex_on : (Direction → Point) → ℕ → ℕ → List Float
vertex_on vertex n i = coordinates (vertex (turn_of i n))

abbrev pub ring_of : (Direction → Point) → ℕ → List Float
ring_of vertex n = blocks n (vertex_on vertex n)

-- Tube: "(p + ey·(r·C)) + ex·(r·Sn)".
unfoldable pub tube_vertex : Axes → Float → Direction → Point
tube_vertex a r d = sum_of (sum_of a.origin (scaled a.ey (times r d.cos))) (scaled a.ex (times r d.sin))

-- Capsule: "bottom pole p − ez·r", "Top pole p + ez·r".
unfoldable pub bottom_pole : Axes → Float → Point
bottom_pole a r = difference_of a.origin (scaled a.ez r)

unfoldable pub top_pole : Axes → Float → Point
top_pole a r = sum_of a.origin (scaled a.ez r)

abbrev pub cap_pole : End → Axes → Float → Point
cap_pole Bottom a r = bottom_pole a r
cap_pole Top a r = top_pole a r

-- "Bottom rings ..: c0 = r·t.cos, ((p + ez·(−r·t.sin)) + ey·(c0·C)) + ex·(c0·Sn)."
unfoldable pub bottom_vertex : Axes → Float → Direction → Direction → Point
bottom_vertex a r t d =
    let c0 = times r t.cos in
    let centre = sum_of a.origin (scaled a.ez (times (neg r) t.sin)) in
    sum_of (sum_of centre (scaled a.ey (times c0 d.cos))) (scaled a.ex (times c0 d.sin))

-- "Top rings: .. ((p + ez·(r·t.sin)) + ex·(c0·Sn)) + ey·(c0·C)."
unfoldable pub top_vertex : Axes → Float → Direction → Direction → Point
top_vertex a r t d =
    let c0 = times r t.cos in
    let centre = sum_of a.origin (scaled a.ez (times r t.sin)) in
    sum_of (sum_of centre (scaled a.ex (times c0 d.sin))) (scaled a.ey (times c0 d.cos))

-- "Bottom rings j below L: t = turn(L − 1 − j, 4L)", "Top rings: t = turn(j, 4L)"
abbrev pub cap_vertex : End → Axes → Float → ℕ → ℕ → Direction → Point
cap_vertex Bottom a r L j = bottom_vertex a r (turn_of (L - 1 - j) (4 * L))
cap_vertex Top a r L j = top_vertex a r (turn_of j (4 * L))

-- Torus: "p + (ex·C + ey·Sn)·r".
unfoldable pub torus_vertex : Axes → Float → Direction → Point
torus_vertex a r d = sum_of a.origin (scaled (sum_of (scaled a.ex d.cos) (scaled a.ey d.sin)) r)

-- Closed cylinder: "ring g: (r·C, low + (length/S)·g, r·Sn)", at any height y, and at that of
-- ring g.
unfoldable pub level_at : Float → Float → Direction → Point
level_at r y d = record { x = times r d.cos; y = y; z = times r d.sin }

abbrev pub level_vertex : Float → Float → Float → ℕ → ℕ → Direction → Point
level_vertex r low length S g = level_at r (plus low (times (over length (whole S)) (whole g)))

-- "poles (+0, low, +0), (+0, low + length, +0)"
abbrev pub pole : Float → Point
pole y = record { x = of_bits binary32 0; y = y; z = of_bits binary32 0 }
