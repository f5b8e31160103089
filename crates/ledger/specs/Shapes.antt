-- What is true of every body of a set, wherever it came from, and what is true besides of a body
-- that was added. Definitions only.
use Rattle.std.specs.Prelude.{◌≡◌, Bool, true, ◌||◌, List, [], ◌∷◌, ◌⊎◌, ℕ, ◌-◌, ◌+◌, ◌*◌, eqb, length}
use Rattle.float32.specs.Scan.{all_finite}
use Rattle.surface.specs.Triangles.{shift}
use Rattle.kinds.specs.Kinds.{permitted, vertex_count, triangles_of}
use Rattle.kinds.specs.Claims.{Claims}
use Rattle.kinds.specs.declared.topology.Topology.{Topology}
use Rattle.kinds.specs.declared.topology.Topology.TheVariants.{Ribbon, Tube, Capsule, Torus, ClosedCylinder}
use Rattle.curve.specs.Segments.{vertices_in}
use Rattle.answers.specs.Answers.{AllPermitted}
use Rattle.descriptions.specs.Descriptions.{topology_of}
use Rattle.descriptions.specs.Refusals.{checked_tests}
use Rattle.bodies.specs.Bodies.{twist_finite, BestTwist}
use Rattle.shared_set.specs.Additions.{Addition}
use Rattle.shared_set.specs.Bodies.{Body, vertex_count_in, body_alone}
use Rattle.ledger.specs.Ledger.{Ledger, empty, then, vertex_sum}

-- the kinds and the n that a body of these numbers may have in its entry: "Kind 6 has kind 4's
-- counts, triangles and limits" (document 02, No. 1)
abbrev pub kind_fits : Topology → ℕ → Bool
kind_fits (Ribbon k) kind = eqb kind 1
kind_fits (Tube k) kind = eqb kind 2
kind_fits (Capsule k) kind = eqb kind 3
kind_fits (Torus k) kind = eqb kind 4 || eqb kind 6
kind_fits (ClosedCylinder k) kind = eqb kind 5

abbrev pub divisions_with : Topology → ℕ
divisions_with (Ribbon k) = 0
divisions_with (Tube k) = k.divisions
divisions_with (Capsule k) = k.divisions
divisions_with (Torus k) = k.divisions
divisions_with (ClosedCylinder k) = k.divisions

-- A body of a set whose first vertex is numbered `first`: permitted numbers give its kind, n,
-- counts and triangles, its floats are finite, and of its triangles as they stand in the set all
-- is true that demand 3 claims.
pub record Shaped (first : ℕ) (b : Body) : Type 0 where
  pub numbers : Topology
  pub allowed : permitted numbers ≡ true
  pub kind : kind_fits numbers b.kind ≡ true
  pub divisions : b.divisions ≡ divisions_with numbers
  pub triangles : b.triangles ≡ triangles_of numbers
  pub vertices : vertex_count_in b ≡ vertex_count numbers
  -- "packed without gap or overlap": its floats are whole vertices, as many as the counts promise
  pub whole : length b.vertices ≡ 3 * vertex_count_in b
  -- not "a vertex coordinate worked out isn't finite" (23)
  pub finite : all_finite b.vertices ≡ true
  -- "no index lies outside it and no directed edge is used twice. Every edge of a capsule, closed
  -- cylinder or torus has its reverse. A tube of n divisions has exactly 2n unmatched edges, a
  -- ribbon of m segments exactly 2m + 2.": the fields of `Claims`. "The closed-edge guarantee
  -- includes the new kind" (document 02, No. 1), whose numbers are a torus's.
  pub claims : Claims numbers first (shift first b.triangles)
  -- "A capsule of n divisions and m segments has exactly 2n(2L + m - 1) triangles, L being its
  -- longitude divisions."
  pub capsule : (n L m : ℕ) → numbers ≡ Capsule (record { divisions = n; longitudes = L; segments = m })
      → length b.triangles ≡ 2 * n * (2 * L + m - 1)

-- what is true of the k of an addition, and of the k of each of a list
abbrev pub HasBest : Addition → Type 0
HasBest a = BestTwist a.description a.curve a.twist

abbrev pub EachBest : List Addition → Type 0
EachBest [] = Unit
EachBest (a ∷ rest) = HasBest a × EachBest rest

-- A body that was added: it is the body alone of an addition whose description and curve are
-- permitted, and which also give its numbers.
pub record Added (first : ℕ) (b : Body) : Type 0 where
  pub addition : Addition
  -- 10, 20, 21, 22, 11, 12 and 13 do not refuse it
  pub passes : AllPermitted (checked_tests addition.description addition.curve)
  -- 23 does not refuse it for a c0, s0 or score, so that its k is one of the best
  pub scores : twist_finite addition.description addition.curve ≡ true
  pub twist : HasBest addition
  pub alone : b ≡ body_alone addition
  pub shaped : Shaped first b
  pub same : shaped.numbers ≡ topology_of addition.description (vertices_in addition.curve)

abbrev pub EachShaped : Ledger → Type 0
EachShaped empty = Unit
EachShaped (then L b) = EachShaped L × Shaped (vertex_sum L) b

abbrev pub EachAdded : Ledger → Type 0
EachAdded empty = Unit
EachAdded (then L b) = EachAdded L × Added (vertex_sum L) b

-- the ledger `before` with bodies at its end that were added
abbrev pub Grown : Ledger → Ledger → Type 0
Grown before empty = before ≡ empty
Grown before (then L b) = (before ≡ then L b) ⊎ (Grown before L × Added (vertex_sum L) b)
