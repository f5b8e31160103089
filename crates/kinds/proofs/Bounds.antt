-- What a permitted body's numbers are, as inequalities. Assumes nothing.
use Rattle.std.proofs.Common.{◌≡◌, true, ◌&&◌, ℕ, ◌+◌, ◌*◌, ◌≤◌, leb-true, leb}
use Rattle.std.proofs.lemmas.Bool.{and_parts}
use Rattle.kinds.specs.Limits.{between, segment_count_permitted, loop_permitted, divisions_permitted}
use Rattle.kinds.specs.Limits.{longitudes_permitted, layers_permitted}
use Rattle.kinds.specs.Kinds.{permitted}
use Rattle.kinds.specs.declared.topology.Topology.{Topology}
use Rattle.kinds.specs.declared.topology.Topology.TheVariants.{Ribbon, Tube, Capsule, Torus, ClosedCylinder}

abbrev pub Between : ℕ → ℕ → ℕ → Type 0
Between least most x = (least ≤ x) × (x ≤ most)

pub between-true : (least most x : ℕ) → between least most x ≡ true → Between least most x
between-true least most x h =
    let t = and_parts (leb least x) (leb x most) h in
    (leb-true least x t.0, leb-true x most t.1)

abbrev pub Bounds : Topology → Type 0
Bounds (Ribbon k) = Between 1 4095 k.segments
Bounds (Tube k) = Between 3 256 k.divisions × Between 1 4095 k.segments
Bounds (Capsule k) = Between 3 256 k.divisions × Between 1 4095 k.segments × (k.longitudes ≤ 256) × (3 ≤ 2 * k.longitudes + k.segments)
Bounds (Torus k) = Between 3 256 k.divisions × Between 3 4096 k.vertices
Bounds (ClosedCylinder k) = Between 3 256 k.divisions × Between 1 4096 k.layers

pub bounds : (t : Topology) → permitted t ≡ true → Bounds t
bounds (Ribbon k) h = between-true 1 4095 k.segments h
bounds (Tube k) h =
    let t = and_parts (divisions_permitted k.divisions) (segment_count_permitted k.segments) h in
    (between-true 3 256 k.divisions t.0, between-true 1 4095 k.segments t.1)
bounds (Capsule k) h =
    let t = and_parts (divisions_permitted k.divisions) (segment_count_permitted k.segments && longitudes_permitted k.longitudes k.segments) h in
    let u = and_parts (segment_count_permitted k.segments) (longitudes_permitted k.longitudes k.segments) t.1 in
    let v = and_parts (leb k.longitudes 256) (leb 3 (2 * k.longitudes + k.segments)) u.1 in (
      between-true 3 256 k.divisions t.0,
      between-true 1 4095 k.segments u.0,
      leb-true k.longitudes 256 v.0,
      leb-true 3 (2 * k.longitudes + k.segments) v.1,
    )
bounds (Torus k) h =
    let t = and_parts (divisions_permitted k.divisions) (loop_permitted k.vertices) h in
    (between-true 3 256 k.divisions t.0, between-true 3 4096 k.vertices t.1)
bounds (ClosedCylinder k) h =
    let t = and_parts (divisions_permitted k.divisions) (layers_permitted k.layers) h in
    (between-true 3 256 k.divisions t.0, between-true 1 4096 k.layers t.1)
