-- A whole surface: a grid of quads, alone or between two caps, as document 01, 'Triangle lists',
-- has them kind by kind. Definitions only.
use Rattle.std.specs.Prelude.{Bool, true, false, cond, ◌&&◌, List, ◌++◌, ℕ, ◌+◌, ◌*◌, ◌≤◌, leb}
use Rattle.surface.specs.Limits.{most_in_all, fits}
use Rattle.surface.specs.Triangles.{Triangle}
use Rattle.surface.specs.Grid.{points_of, grid_triangles}
use Rattle.surface.specs.Caps.{cap_triangles}
use Rattle.surface.specs.declared.caps.End.TheVariants.{Bottom, Top}
use Rattle.surface.specs.declared.grid.Chain.{Chain}
use Rattle.surface.specs.declared.grid.Chain.TheVariants as chain
use Rattle.surface.specs.declared.whole.Ending.{Ending}
use Rattle.surface.specs.declared.whole.Ending.TheVariants.{Open, Closed, Capped}
use Rattle.surface.specs.declared.whole.Surface.{Surface}

-- the chain of a surface's rings, and whether it has caps
abbrev pub chain_of : Ending → Chain
chain_of Open = chain.Open
chain_of Closed = chain.Closed
chain_of Capped = chain.Open

abbrev pub is_capped : Ending → Bool
is_capped Open = false
is_capped Closed = false
is_capped Capped = true

-- how many rings there are, how many vertices on each, and on all
abbrev pub ring_count : Surface → ℕ
ring_count s = points_of (chain_of s.ending) s.rows

abbrev pub ring_size : Surface → ℕ
ring_size s = points_of s.round s.columns

abbrev pub grid_size : Surface → ℕ
grid_size s = ring_count s * ring_size s

abbrev pub surface_grid : Surface → ℕ → List Triangle
surface_grid s base = grid_triangles s.split (chain_of s.ending) s.rows s.round s.columns base

-- The triangles of a surface whose first vertex is `first`: with caps the bottom pole comes before
-- the rings and the top pole after them.
unfoldable pub surface_triangles : Surface → ℕ → List Triangle
surface_triangles s first =
    let side = first + 1 in
    let n = s.columns in
    cond (is_capped s.ending)
    (cap_triangles Bottom n first side
    ++ (surface_grid s side ++ cap_triangles Top n (side + grid_size s) (side + s.rows * ring_size s)))
    (surface_grid s first)

unfoldable pub surface_vertex_count : Surface → ℕ
surface_vertex_count s = grid_size s + cond (is_capped s.ending) 2 0

unfoldable pub surface_triangle_count : Surface → ℕ
surface_triangle_count s = 2 * (s.rows * s.columns) + cond (is_capped s.ending) (2 * s.columns) 0

-- Whether a surface can be written alone, its first vertex numbered `first`: its vertices do not
-- "take their total above 2^28" (3), and there is room for its triangles (4).
unfoldable pub placeable : Surface → ℕ → ℕ → Bool
placeable s first room = leb (first + surface_vertex_count s) most_in_all && fits (surface_triangle_count s) room

-- What the writer of a whole surface asks: its vertices are numbered below `most_in_all`, and its
-- triangles lie within the buffer.
pub record SurfaceFits (s : Surface) (first room : ℕ) : Type 0 where
  pub numbers : first + surface_vertex_count s ≤ most_in_all
  pub within : 3 * surface_triangle_count s ≤ room

-- What the grid's writer asks.
pub record GridFits (s : Surface) (base room : ℕ) : Type 0 where
  pub numbers : base + grid_size s ≤ most_in_all
  pub within : s.rows * s.columns * 6 ≤ room
