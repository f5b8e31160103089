-- What demand 3 and document 01, 'Triangle lists', say of the edges and the triangles of every
-- body. Definitions only.
use Rattle.std.specs.Prelude.{◌≡◌, List, ℕ, ◌+◌, ◌*◌, ◌≤◌, length}
use Rattle.surface.specs.Triangles.{Triangle}
use Rattle.edges.specs.Edges.{Edge, edges, unmatched, NoneTwice, AllMatched, Within}
use Rattle.kinds.specs.Kinds.{vertex_count, triangle_count}
use Rattle.kinds.specs.declared.topology.Topology.{Topology}
use Rattle.kinds.specs.declared.topology.Topology.TheVariants.{Ribbon, Tube, Capsule, Torus, ClosedCylinder}

-- "Every edge of a capsule, closed cylinder or torus has its reverse. A tube of n divisions has
-- exactly 2n unmatched edges, a ribbon of m segments exactly 2m + 2." Said of the edges es of the
-- body's triangles.
abbrev pub Reverses : Topology → List Edge → Type 0
Reverses (Ribbon k) es = unmatched es ≡ 2 * k.segments + 2
Reverses (Tube k) es = unmatched es ≡ 2 * k.divisions
Reverses (Capsule k) es = AllMatched es
Reverses (Torus k) es = AllMatched es
Reverses (ClosedCylinder k) es = AllMatched es

-- The numbers of which the claims hold: no upper limit is needed. Every permitted body has them.
abbrev pub Enough : Topology → Type 0
Enough (Ribbon k) = 1 ≤ k.segments
Enough (Tube k) = (3 ≤ k.divisions) × (1 ≤ k.segments)
Enough (Capsule k) = (3 ≤ k.divisions) × (3 ≤ 2 * k.longitudes + k.segments)
Enough (Torus k) = (3 ≤ k.divisions) × (3 ≤ k.vertices)
Enough (ClosedCylinder k) = (3 ≤ k.divisions) × (1 ≤ k.layers)

-- What is claimed of a list ts of the body's triangles whose first vertex is numbered `first`.
pub record Claims (t : Topology) (first : ℕ) (ts : List Triangle) : Type 0 where
  -- "no index lies outside it"
  pub inside : Within first (first + vertex_count t) ts
  -- "no directed edge is used twice"
  pub once : NoneTwice (edges ts)
  -- which edges have their reverse, kind by kind
  pub reverses : Reverses t (edges ts)
  -- exactly as many triangles as are counted
  pub triangles : length ts ≡ triangle_count t
