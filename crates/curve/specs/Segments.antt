-- A curve's vertices and segments (document 01, 'Triangle lists': "m curve segments"; 'Frames and
-- vertices'). An open curve has m segments between its m + 1 vertices. A closed one has N segments
-- between its N vertices; the last is the closing one. Definitions only.
use Rattle.std.specs.Prelude.{cond, List, [], ◌∷◌, ℕ, ◌+◌, ◌-◌, ◌*◌, ◌/◌, ltb, Float, length, get_or}
use Rattle.std.specs.Float.{nan}
use Rattle.laws.specs.Blocks.{blocks}
use Rattle.surface.specs.Grid.{after_of}
use Rattle.surface.specs.declared.grid.Chain.{Chain}
use Rattle.surface.specs.declared.grid.Chain.TheVariants.{Open, Closed}
use Rattle.vec3.specs.Points.{difference_of, normalised}
use Rattle.vec3.specs.declared.points.Point.{Point}

-- how many whole vertices a curve has
abbrev pub vertices_in : List Float → ℕ
vertices_in c = length c / 3

-- How many segments a curve of N vertices has: m with m + 1 = N where it is open, N where it is
-- closed, "with the torus's closing one" (of 12).
abbrev pub segments_of : Chain → ℕ → ℕ
segments_of Open N = N - 1
segments_of Closed N = N

-- the point whose coordinates begin at index p
abbrev pub point_at : List Float → ℕ → Point
point_at c p = record { x = get_or c p nan; y = get_or c (p + 1) nan; z = get_or c (p + 2) nan }

-- Vertex k: "Vertices are three f32 each" ('The shared set'). Where the curve has no vertex k, of
-- which the paper says nothing, NaNs.
unfoldable pub vertex_of : List Float → ℕ → Point
vertex_of c k = cond (ltb k (vertices_in c)) (point_at c (3 * k)) (record { x = nan; y = nan; z = nan })

-- Segment k of `count`: the difference from vertex k to the next one. For the closing segment that
-- is vertex 0.
unfoldable pub segment_of : Chain → ℕ → List Float → ℕ → Point
segment_of chain count c k = difference_of (vertex_of c (after_of chain count k)) (vertex_of c k)

-- the segment normalised
unfoldable pub segment_direction : Chain → ℕ → List Float → ℕ → Point
segment_direction chain count c k = normalised (segment_of chain count c k)

-- The table of the directions: each segment's, one after the other. A body's are worked out once.
unfoldable pub directions_of : Chain → ℕ → List Float → List Point
directions_of chain count c = blocks count (λ k. segment_direction chain count c k ∷ [])
