-- Closed curves (document 01, 'Frames and vertices'), under the names of polyloop3.rs: the frame
-- and the axes at vertex g of a loop of N vertices, for every g, and the torus made of them. Which
-- frames a torus has is said in `vtx2framex` alone. Definitions only.
use Rattle.std.specs.Prelude.{List, ℕ, Float}
use Rattle.laws.specs.Blocks.{blocks}
use Rattle.surface.specs.declared.grid.Chain.TheVariants.{Closed}
use Rattle.vec3.specs.declared.frames.Frame.{Frame}
use Rattle.curve.specs.Segments.{vertex_of, segment_direction}
use Rattle.curve.specs.Framex.{frame_of}
use Rattle.rings.specs.Axes.{axes_at}
use Rattle.rings.specs.Vertices.{ring_of, torus_vertex}
use Rattle.rings.specs.declared.axes.Axes.{Axes}

-- "Closed: frames 1 to N − 1 transported, the last onto the closing segment."
unfoldable pub vtx2framex : ℕ → List Float → ℕ → Frame
vtx2framex N c g = frame_of Closed N c g

-- The axes at vertex g, from the frame there: "Torus: ez is the segment leaving the vertex",
-- normalised, as everywhere where a segment is ez.
unfoldable pub axes_of : ℕ → List Float → Frame → ℕ → Axes
axes_of N c frame g = axes_at (vertex_of c g) frame (segment_direction Closed N c g)

-- the ring at vertex g, from the frame there
abbrev pub torus_ring : ℕ → Float → ℕ → List Float → Frame → ℕ → List Float
torus_ring n r N c frame g = ring_of (torus_vertex (axes_of N c frame g) r) n

-- the torus has the frames of `vtx2framex`
abbrev pub torus_part : ℕ → Float → ℕ → List Float → ℕ → List Float
torus_part n r N c g = torus_ring n r N c (vtx2framex N c g) g

abbrev pub torus_vertices : ℕ → Float → ℕ → List Float → List Float
torus_vertices n r N c = blocks N (torus_part n r N c)
