-- The kinds by their numbers: what is permitted, how many vertices and triangles, and which
-- triangles. Document 01, 'Triangle lists' and 'Refused, and through whom'. A torus here is of kind
-- 4 or of kind 6, which "has kind 4's counts, triangles and limits" (document 02, No. 1).
-- Definitions only.
use Rattle.std.specs.Prelude.{Bool, ◌&&◌, List, ℕ, ◌+◌, ◌-◌, ◌*◌, leb}
use Rattle.surface.specs.Limits.{most_in_all, fits}
use Rattle.surface.specs.Triangles.{Triangle}
use Rattle.surface.specs.declared.grid.Chain as Chain
use Rattle.surface.specs.declared.grid.Chain.TheVariants as chains
use Rattle.surface.specs.declared.quads.Split as Split
use Rattle.surface.specs.declared.quads.Split.TheVariants as splits
use Rattle.surface.specs.declared.whole.Ending as Ending
use Rattle.surface.specs.declared.whole.Ending.TheVariants as endings
use Rattle.surface.specs.declared.whole.Surface.{Surface}
use Rattle.kinds.specs.Limits.{segment_count_permitted, loop_permitted, divisions_permitted}
use Rattle.kinds.specs.Limits.{longitudes_permitted, layers_permitted}
use Rattle.kinds.specs.Lists.{closed_triangles, torus_triangles, tube_triangles, ribbon_triangles}
use Rattle.kinds.specs.declared.capsule.Capsule as Capsules
use Rattle.kinds.specs.declared.topology.Topology.{Topology}
use Rattle.kinds.specs.declared.topology.Topology.TheVariants.{Ribbon, Tube, Capsule, Torus, ClosedCylinder}

-- "A capsule has S = 2L + m − 2": 2L + m steps from pole to pole. Of fewer than two, which no
-- permitted capsule has, S is 0.
abbrev pub steps_of : Capsules.Capsule → ℕ
steps_of k = 2 * k.longitudes + k.segments

abbrev pub layers_of : Capsules.Capsule → ℕ
layers_of k = steps_of k - 2

abbrev pub permitted : Topology → Bool
permitted (Ribbon k) = segment_count_permitted k.segments
permitted (Tube k) = divisions_permitted k.divisions && segment_count_permitted k.segments
permitted (Capsule k) =
    divisions_permitted k.divisions
    && (segment_count_permitted k.segments && longitudes_permitted k.longitudes k.segments)
permitted (Torus k) = divisions_permitted k.divisions && loop_permitted k.vertices
permitted (ClosedCylinder k) = divisions_permitted k.divisions && layers_permitted k.layers

abbrev pub vertex_count : Topology → ℕ
vertex_count (Ribbon k) = 2 * (k.segments + 1)
vertex_count (Tube k) = k.divisions * (k.segments + 1)
vertex_count (Capsule k) = k.divisions * (layers_of k + 1) + 2
vertex_count (Torus k) = k.vertices * k.divisions
vertex_count (ClosedCylinder k) = k.divisions * (k.layers + 1) + 2

abbrev pub triangle_count : Topology → ℕ
triangle_count (Ribbon k) = 2 * k.segments
triangle_count (Tube k) = 2 * k.divisions * k.segments
triangle_count (Capsule k) = 2 * k.divisions * (layers_of k + 1)
triangle_count (Torus k) = 2 * k.vertices * k.divisions
triangle_count (ClosedCylinder k) = 2 * k.divisions * (k.layers + 1)

abbrev pub triangles_of : Topology → List Triangle
triangles_of (Ribbon k) = ribbon_triangles k.segments
triangles_of (Tube k) = tube_triangles k.divisions k.segments
triangles_of (Capsule k) = closed_triangles k.divisions (layers_of k)
triangles_of (Torus k) = torus_triangles k.divisions k.vertices
triangles_of (ClosedCylinder k) = closed_triangles k.divisions k.layers

-- Whether a body's triangles can be written alone, its first vertex numbered `first`, into a
-- buffer of `room` numbers: it is permitted, its vertices do not "take their total above 2^28"
-- (3), and there is room for its triangles (4). A permitted body has fewer than 2^28 of these.
unfoldable pub writable : Topology → ℕ → ℕ → Bool
writable t first room = permitted t && (leb (first + vertex_count t) most_in_all && fits (triangle_count t) room)

abbrev pub surface_with : Split.Split → Ending.Ending → ℕ → Chain.Chain → ℕ → Surface
surface_with split ending rows round columns =
    record { split = split; ending = ending; rows = rows; round = round; columns = columns }

-- The grid of quads, alone or capped, whose list the body's is.
abbrev pub surface_of : Topology → Surface
surface_of (Ribbon k) = surface_with splits.Ribbon endings.Open k.segments chains.Open 1
surface_of (Tube k) = surface_with splits.Tube endings.Open k.segments chains.Closed k.divisions
surface_of (Capsule k) = surface_with splits.Capped endings.Capped (layers_of k) chains.Closed k.divisions
surface_of (Torus k) = surface_with splits.Torus endings.Closed k.vertices chains.Closed k.divisions
surface_of (ClosedCylinder k) = surface_with splits.Capped endings.Capped k.layers chains.Closed k.divisions
