-- What the writers of tube, capsule and torus share: what stands at a body's first vertex, the
-- rings at the vertices between two segments, and what stands at its last vertex (document 01,
-- 'Frames and vertices'), for a curve c of m segments and rings of n vertices of radius r.
-- Definitions only.
use Rattle.std.specs.Prelude.{List, [], ◌++◌, ℕ, ◌+◌, ◌-◌, ◌*◌, Float}
use Rattle.laws.specs.Blocks.{blocks}
use Rattle.surface.specs.declared.grid.Chain.{Chain}
use Rattle.surface.specs.declared.grid.Chain.TheVariants.{Open, Closed}
use Rattle.surface.specs.declared.caps.End.{End}
use Rattle.surface.specs.declared.caps.End.TheVariants.{Bottom, Top}
use Rattle.curve.specs.Segments.{vertex_of}
use Rattle.curve.specs.Framex.{carried_of}
use Rattle.curve.specs.declared.framex.Carried.{Carried}
use Rattle.rings.specs.Axes.{axes_at}
use Rattle.rings.specs.Vertices.{ring_of, tube_vertex, torus_vertex}
use Rattle.rings.specs.declared.axes.Axes.{Axes}
use Rattle.rings.specs.declared.ring.Order.{Order}
use Rattle.rings.specs.declared.ring.Order.TheVariants.{EyFirst, SumFirst}
use Rattle.ring_writers.specs.Caps.{end_vertices}
use Rattle.swept_bodies.specs.Tables.{ez_between}
use Rattle.swept_bodies.specs.declared.ending.Ending.{Ending}
use Rattle.swept_bodies.specs.declared.ending.Ending.TheVariants.{Rings, Caps, Joined}

-- the order of the terms of a vertex: that of document 01's tube and capsule, or of its torus
abbrev pub order_of : Chain → Order
order_of Open = EyFirst
order_of Closed = SumFirst

-- a ring about axes: that of a tube or a capsule on an open curve, that of a torus on a loop
abbrev pub ring_about : Chain → ℕ → Float → Axes → List Float
ring_about Open n r a = ring_of (tube_vertex a r) n
ring_about Closed n r a = ring_of (torus_vertex a r) n

-- axes at vertex g that stand square to the segment that the frame has been carried to
abbrev pub axes_on : List Float → ℕ → Carried → Axes
axes_on c g b = axes_at (vertex_of c g) b.frame b.direction

-- the axes at the first vertex, at vertex g between two segments, and at an open curve's last
abbrev pub axes_first : Chain → ℕ → List Float → Axes
axes_first chain m c = axes_on c 0 (carried_of chain m c 0)

abbrev pub axes_inner : Chain → ℕ → List Float → ℕ → Axes
axes_inner chain m c g = axes_at (vertex_of c g) (carried_of chain m c g).frame (ez_between chain m c g)

abbrev pub axes_last : Chain → ℕ → List Float → Axes
axes_last chain m c = axes_on c m (carried_of chain m c (m - 1))

-- What stands at an end of a body, at the first vertex of its curve (Bottom) or at the last (Top): a
-- ring, or a capsule's pole with the rings of its cap. On a loop the last vertex is the first.
abbrev pub end_part : Ending → End → Chain → ℕ → Float → Axes → List Float
end_part Rings end chain n r a = ring_about chain n r a
end_part (Caps L) end chain n r a = end_vertices end a r L n
end_part Joined Bottom chain n r a = ring_about chain n r a
end_part Joined Top chain n r a = []

-- how many floats these are, of rings of `size` floats
abbrev pub end_floats : Ending → End → ℕ → ℕ
end_floats Rings end size = size
end_floats (Caps L) end size = 3 + L * size
end_floats Joined Bottom size = size
end_floats Joined Top size = 0

-- and how many the whole body is
abbrev pub swept_floats : Ending → ℕ → ℕ → ℕ
swept_floats ending size m = end_floats ending Bottom size + (m - 1) * size + end_floats ending Top size

-- the rings at the vertices between two segments
abbrev pub inner_rings : Chain → ℕ → Float → ℕ → List Float → List Float
inner_rings chain n r m c = blocks (m - 1) (λ k. ring_about chain n r (axes_inner chain m c (k + 1)))

-- the whole body
unfoldable pub swept_vertices : Ending → Chain → ℕ → Float → ℕ → List Float → List Float
swept_vertices ending chain n r m c =
    end_part ending Bottom chain n r (axes_first chain m c)
    ++ (inner_rings chain n r m c ++ end_part ending Top chain n r (axes_last chain m c))
