-- What each kind's writer asks, of a body that 10, 20 and 21 permit and that has room. Assumes
-- nothing.
use Rattle.std.proofs.Common.{◌≡◌, ap, List, ℕ, ◌+◌, ◌-◌, ◌*◌, ◌≤◌, arith, Float}
use Rattle.vec3.specs.declared.points.Point.{Point}
use Rattle.kinds.specs.Kinds.{vertex_count}
use Rattle.curve.specs.Segments.{vertices_in}
use Rattle.descriptions.specs.Descriptions.{topology_of}
use Rattle.descriptions.specs.Refusals.{ShapePermitted}
use Rattle.descriptions.specs.declared.description.Description.{Description}
use Rattle.descriptions.specs.declared.description.Description.TheVariants.{Ribbon, Tube, Capsule}
use Rattle.descriptions.specs.declared.description.Description.TheVariants.{Torus, ClosedCylinder, SeamlessTorus}
use Rattle.descriptions.proofs.Shapes.{shape-bounds, vertices-most}
use Rattle.swept_bodies.specs.Tables.{OpenCurve, ClosedCurve}
use Rattle.swept_bodies.specs.Capsule.{CapsuleFits}
use Rattle.bodies.specs.Bodies.{CurveDirections}

-- of a torus, with a seam or without
abbrev LoopAsks : ℕ → List Float → List Point → ℕ → Type 0
LoopAsks n c table room = ClosedCurve c table × (n ≤ 256) × (vertices_in c * (n * 3) ≤ room)

abbrev pub Asks : Description → List Float → List Point → ℕ → Type 0
Asks (Ribbon w) c table room = OpenCurve c table × ((vertices_in c - 1 + 1) * 6 ≤ room)
Asks (Tube n r) c table room = OpenCurve c table × (n ≤ 256) × ((vertices_in c - 1 + 1) * (n * 3) ≤ room)
Asks (Capsule n L r) c table room = OpenCurve c table × CapsuleFits (vertices_in c - 1) n L room
Asks (Torus n r) c table room = LoopAsks n c table room
Asks (ClosedCylinder n S centred r l) c table room = (n ≤ 256) × (S ≤ 4096) × ((S + 1) * (n * 3) + 6 ≤ room)
Asks (SeamlessTorus n r) c table room = LoopAsks n c table room

loop-asks : (n : ℕ) (r : Float) (c : List Float) (table : List Point) (room : ℕ) → let torus = Torus n r in
    ShapePermitted torus (vertices_in c) → 3 * vertex_count (topology_of torus (vertices_in c)) ≤ room
    → CurveDirections torus c table → LoopAsks n c table room
loop-asks n r c table room h fits along =
    let b = shape-bounds (Torus n r) (vertices_in c) h in
    let most = vertices-most (Torus n r) (vertices_in c) h.0 in
    (record { segment = omega arith; most = most; table = along }, b.0.1, omega arith)

pub asks : (d : Description) (c : List Float) (table : List Point) (room : ℕ) → ShapePermitted d (vertices_in c)
    → 3 * vertex_count (topology_of d (vertices_in c)) ≤ room
    → CurveDirections d c table → Asks d c table room
asks (Ribbon w) c table room h fits along =
    let b = shape-bounds (Ribbon w) (vertices_in c) h in
    (record { segment = b.0; most = vertices-most (Ribbon w) (vertices_in c) h.0; table = along }, omega arith)
asks (Tube n r) c table room h fits along =
    let b = shape-bounds (Tube n r) (vertices_in c) h in
    (record { segment = b.1.0; most = vertices-most (Tube n r) (vertices_in c) h.0; table = along }, b.0.1, omega arith)
asks (Capsule n L r) c table room h fits along =
    let m = vertices_in c - 1 in
    let b = shape-bounds (Capsule n L r) (vertices_in c) h in
    let same : 2 * L + m - 2 + 1 ≡ 2 * L + m - 1 = omega arith in
    let rings : n * (2 * L + m - 2 + 1) ≡ n * (2 * L + m - 1) = ap (λ (k : ℕ). n * k) same in (
      record { segment = b.1.0; most = vertices-most (Capsule n L r) (vertices_in c) h.0; table = along },
      record { ring = b.0.1; cap = b.2; within = omega (arith, rings) },
    )
asks (Torus n r) c table room h fits along = loop-asks n r c table room h fits along
asks (ClosedCylinder n S centred r l) c table room h fits along =
    let b = shape-bounds (ClosedCylinder n S centred r l) (vertices_in c) h in
    (b.0.1, b.1.1, omega arith)
asks (SeamlessTorus n r) c table room h fits along = loop-asks n r c table room h fits along
