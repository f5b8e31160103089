-- Rings as values, and the vertex of a ring in a direction: the formulas of document 01, 'Frames
-- and vertices', as Vertices.antt quotes them, over a centre and a radius. Definitions only.
use Rattle.std.specs.Prelude.{List, [], ◌∷◌, ℕ, ◌-◌, ◌*◌, Float}
use Rattle.std.specs.Float.Ieee.{neg}
use Rattle.surface.specs.declared.caps.End.{End}
use Rattle.surface.specs.declared.caps.End.TheVariants.{Bottom, Top}
use Rattle.vec3.specs.Points.{times, thrice, point_in, sum_of, scaled, product_of}
use Rattle.vec3.specs.Turns.{turn_of}
use Rattle.vec3.specs.declared.points.Point.{Point}
use Rattle.vec3.specs.declared.turns.Direction.{Direction}
use Rattle.rings.specs.declared.axes.Axes.{Axes}
use Rattle.rings.specs.declared.ring.Order.{Order}
use Rattle.rings.specs.declared.ring.Order.TheVariants.{EyFirst, ExFirst, SumFirst}
use Rattle.rings.specs.declared.ring.Ring.{Ring}

unfoldable pub ring_around : Order → Axes → Point → Float → Ring
ring_around order a centre r = record { order = order; centre = centre; ex = a.ex; ey = a.ey; radius = r }

-- The vertex of a ring in a direction whose cosine and sine are handed over three times each, as
-- the tables hold them: component by component the products are those of the formulas.

-- two terms added to the centre, one after the other: an axis by the radius by a cosine or a sine
unfoldable pub two_terms : Ring → Point → Point → Point → Point → Point
two_terms k first a second b =
    let r = thrice k.radius in
    sum_of (sum_of k.centre (product_of first (product_of r a))) (product_of second (product_of r b))

unfoldable pub sum_first : Ring → Point → Point → Point
sum_first k cos sin = sum_of k.centre (scaled (sum_of (product_of k.ex cos) (product_of k.ey sin)) k.radius)

abbrev pub in_order : Order → Ring → Point → Point → Point
in_order EyFirst k cos sin = two_terms k k.ey cos k.ex sin
in_order ExFirst k cos sin = two_terms k k.ex sin k.ey cos
in_order SumFirst k cos sin = sum_first k cos sin

abbrev pub ring_vertex : Ring → Direction → Point
ring_vertex k d = in_order k.order k (thrice d.cos) (thrice d.sin)

-- four vertices of a ring
abbrev pub four_of : (Point → Point → Point) → List Point → List Point → List Point
four_of vertex cos sin =
    vertex (point_in cos 0) (point_in sin 0) ∷ vertex (point_in cos 1) (point_in sin 1)
    ∷ vertex (point_in cos 2) (point_in sin 2) ∷ vertex (point_in cos 3) (point_in sin 3) ∷ []

-- the ring round the origin of the axes
abbrev pub ring_at : Order → Axes → Float → Ring
ring_at order a r = ring_around order a a.origin r

-- a ring of a cap: its centre on the axis, its radius c0; L − 1 − j is 0 if a bottom cap has no
-- ring j
abbrev pub cap_ring : End → Axes → Float → ℕ → ℕ → Ring
cap_ring Bottom a r L j =
    let t = turn_of (L - 1 - j) (4 * L) in
    ring_around EyFirst a (sum_of a.origin (scaled a.ez (times (neg r) t.sin))) (times r t.cos)
cap_ring Top a r L j =
    let t = turn_of j (4 * L) in
    ring_around ExFirst a (sum_of a.origin (scaled a.ez (times r t.sin))) (times r t.cos)
