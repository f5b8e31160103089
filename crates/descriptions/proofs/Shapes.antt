-- What it tells of a body's numbers that 10, 20 and 21 do not refuse them. Assumes nothing.
use Rattle.std.proofs.Common.{◌≡◌, true, ◌&&◌, List, ℕ, ◌+◌, ◌-◌, ◌*◌, ◌%◌, ◌/◌, ◌^◌, ◌≤◌, mul-le-mul, arith}
use Rattle.std.proofs.Common.{Float, length, le-leb, eqb-true}
use Rattle.std.proofs.lemmas.Bool.{and_parts}
use Rattle.surface.specs.declared.grid.Chain.{Chain}
use Rattle.surface.specs.declared.grid.Chain.TheVariants as chain
use Rattle.kinds.specs.Limits.{segment_count_permitted}
use Rattle.kinds.specs.Kinds.{permitted, vertex_count, triangle_count, layers_of}
use Rattle.kinds.specs.declared.topology.Topology.{Topology}
use Rattle.kinds.specs.declared.topology.Topology.TheVariants as topology
use Rattle.kinds.proofs.Bounds.{Bounds, bounds, between-true}
use Rattle.answers.specs.Answers.{AllPermitted}
use Rattle.curve.specs.Segments.{segments_of}
use Rattle.descriptions.specs.Descriptions.{curve_chain, segment_count, topology_of}
use Rattle.descriptions.specs.KindNumbers.{divisions_of}
use Rattle.descriptions.specs.Refusals.{
  least_open,
  most_open,
  open_vertices_permitted,
  least_vertices,
  most_vertices,
  vertices_permitted,
  whole_vertices,
  curve_permitted,
  least_divisions,
  most_divisions,
  round_permitted,
  lengthwise_permitted,
  ShapePermitted,
  segment_tests,
  checked_tests,
}
use Rattle.descriptions.specs.declared.description.Description.{Description}
use Rattle.descriptions.specs.declared.description.Description.TheVariants.{Ribbon, Tube, Capsule, Torus}
use Rattle.descriptions.specs.declared.description.Description.TheVariants.{ClosedCylinder, SeamlessTorus}

-- no curve has more than 4,096 vertices, no body more than 256 divisions
pub vertices-most : (d : Description) (N : ℕ) → vertices_permitted d N ≡ true → N ≤ 4096
vertices-most d N h = omega (arith, (between-true (least_vertices d) (most_vertices d) N h).1, most d) where
  most : (d : Description) → most_vertices d ≤ 4096
  most (Ribbon w) = omega arith
  most (Tube n r) = omega arith
  most (Capsule n L r) = omega arith
  most (Torus n r) = omega arith
  most (ClosedCylinder n S centred r l) = omega arith
  most (SeamlessTorus n r) = omega arith

pub divisions-most : (d : Description) → round_permitted d ≡ true → divisions_of d ≤ 256
divisions-most d h =
    omega (arith, (between-true (least_divisions d) (most_divisions d) (divisions_of d) h).1, most d) where
      most : (d : Description) → most_divisions d ≤ 256
      most (Ribbon w) = omega arith
      most (Tube n r) = omega arith
      most (Capsule n L r) = omega arith
      most (Torus n r) = omega arith
      most (ClosedCylinder n S centred r l) = omega arith
      most (SeamlessTorus n r) = omega arith

no_more : (k : Chain) (N : ℕ) → segments_of k N ≤ N
no_more chain.Open N = omega arith
no_more chain.Closed N = omega arith

-- there are no more segments than that, either
pub segments-most : (d : Description) (N : ℕ) → vertices_permitted d N ≡ true → segment_count d N ≤ 4096
segments-most d N h = omega (arith, vertices-most d N h, no_more (curve_chain d) N)

-- 2 to 4,096 vertices have 1 to 4,095 segments between them
open-segments : (N : ℕ) → open_vertices_permitted N ≡ true → segment_count_permitted (N - 1) ≡ true
open-segments N h =
    let b = between-true least_open most_open N h in
    let least : 1 ≤ N - 1 = omega arith in
    let most : N - 1 ≤ 4095 = omega arith in
    (λ j. le-leb 1 (N - 1) least j && le-leb (N - 1) 4095 most j)

pub shape-permitted : (d : Description) (N : ℕ) → ShapePermitted d N → permitted (topology_of d N) ≡ true
shape-permitted (Ribbon w) N h = open-segments N h.0
shape-permitted (Tube n r) N h = λ j. h.1.0 j && open-segments N h.0 j
shape-permitted (Capsule n L r) N h = λ j. h.1.0 j && (open-segments N h.0 j && h.1.1.0 j)
shape-permitted (Torus n r) N h = λ j. h.1.0 j && h.0 j
shape-permitted (ClosedCylinder n S centred r l) N h = λ j. h.1.0 j && h.1.1.0 j
shape-permitted (SeamlessTorus n r) N h = λ j. h.1.0 j && h.0 j

pub shape-bounds : (d : Description) (N : ℕ) → ShapePermitted d N → Bounds (topology_of d N)
shape-bounds d N h = bounds (topology_of d N) (shape-permitted d N h)

-- A permitted body alone has no more than 2^28 vertices or triangles, the limit of a whole set.
pub counts-most : (t : Topology) → permitted t ≡ true → (vertex_count t ≤ 2 ^ 28) × (triangle_count t ≤ 2 ^ 28)
counts-most t h = most t (bounds t h) where
  product-most : (n s : ℕ) → n ≤ 256 → s ≤ 8192 → n * s ≤ 2 ^ 21
  product-most n s a b = mul-le-mul a b

  most : (t : Topology) → Bounds t → (vertex_count t ≤ 2 ^ 28) × (triangle_count t ≤ 2 ^ 28)
  most (topology.Ribbon k) b = (omega arith, omega arith)
  most (topology.Tube k) b =
      let p = product-most k.divisions (k.segments + 1) b.0.1 (omega arith) in
      (omega arith, omega arith)
  most (topology.Capsule k) b =
      let p = product-most k.divisions (layers_of k + 1) b.0.1 (omega arith) in
      (omega arith, omega arith)
  most (topology.Torus k) b =
      let p = product-most k.divisions k.vertices b.0.1 (omega arith) in
      (omega arith, omega arith)
  most (topology.ClosedCylinder k) b =
      let p = product-most k.divisions (k.layers + 1) b.0.1 (omega arith) in
      (omega arith, omega arith)

-- a curve and a description that 10, 20 and 21 let pass: whole vertices, and a permitted shape
curve-shape : (d : Description) (c : List Float) → curve_permitted d c ≡ true → round_permitted d ≡ true
    → lengthwise_permitted d (length c / 3) ≡ true → (length c % 3 ≡ 0) × ShapePermitted d (length c / 3)
curve-shape d c h round lengthwise =
    let curve = and_parts (whole_vertices c) (vertices_permitted d (length c / 3)) h in
    (eqb-true (length c % 3) 0 curve.0, (curve.1, (round, (lengthwise, tt))))

-- the same of what passes the tests up to 12, and of what passes 13 too
pub segments-shape : (d : Description) (c : List Float)
    → AllPermitted (segment_tests d c) → (length c % 3 ≡ 0) × ShapePermitted d (length c / 3)
segments-shape d c h = curve-shape d c h.0 h.1.0 h.1.1.0

pub checked-shape : (d : Description) (c : List Float)
    → AllPermitted (checked_tests d c) → (length c % 3 ≡ 0) × ShapePermitted d (length c / 3)
checked-shape d c h = curve-shape d c h.0 h.1.0 h.1.1.0

-- what the search uses where a number of a permitted description is cast
pub ruleset limits = (vertices-most, divisions-most, shape-bounds)
