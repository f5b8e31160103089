-- The bodies that the Rust functions kept by document 01 make, with its stand-ins under them, are
-- document 01's, and document 02's of kind 6 for every k that stands for the arctangent: for every
-- description and curve of which the Rust's own asserts hold. Assumes nothing.
use mathlib.Core.Path.{◌≡◌, refl}
use mathlib.Core.List.{List}
use Prim.Native.Nat.{ℕ, ◌+◌, ◌-◌}
use native.Mathlib.Omega.{arith}
use lib.Ieee.{Float}
use Rattle.kinds.specs.declared.topology.Topology.{Topology}
use Rattle.curve.specs.Segments.{vertices_in}
use Rattle.answers.specs.Answers.{accepted}
use Rattle.descriptions.specs.Descriptions.{topology_of}
use Rattle.descriptions.specs.Refusals.{ShapePermitted, checked_tests, checked_of}
use Rattle.descriptions.specs.declared.description.Description.{Description}
use Rattle.descriptions.specs.declared.description.Description.TheVariants.{Ribbon, Tube, Capsule}
use Rattle.descriptions.specs.declared.description.Description.TheVariants.{Torus, ClosedCylinder, SeamlessTorus}
use Rattle.twists.specs.Chosen.{chosen_twist}
use Rattle.twists.specs.declared.twist.Twist.{Twist}
use Rattle.swept_bodies.specs.Polyloop3.{vtx2framex}
use Rattle.seamless_torus.specs.Polyloop3.{smooth_frame}
use Rattle.bodies.specs.Bodies.{twist_taken}
use Rattle.answers.proofs.FirstOf.{accepted-by}
use Rattle.descriptions.proofs.Shapes.{shape-bounds, checked-shape}
use Rattle.del_msh.specs.Arrays.{minus, Outside}
use Rattle.del_msh.specs.Trimesh3Primitive.{cylinder-open-end-number-of-tri-and-vtx}
use Rattle.del_msh.specs.Adapted.{chunks, turn_by, rust_body, paper_body, twist_by, Asked}
use Rattle.del_msh.specs.Polyloop3 as polyloop3
use Rattle.del_msh.proofs.Usize.{minus_is}
use Rattle.del_msh.proofs.Topology.{open-topology}
use Rattle.del_msh.proofs.ClosedCylinder.{yup-floats, yup-triangles}
use Rattle.del_msh.proofs.OpenFrames.{sized}
use Rattle.del_msh.proofs.Ribbon.{ribbon-floats, ribbon-triangles}
use Rattle.del_msh.proofs.Tube.{tube-floats}
use Rattle.del_msh.proofs.Capsule.{capsule-floats, capsule-triangles}
use Rattle.del_msh.proofs.Torus.{ex-at, torus-over, torus-triangles}
use Rattle.del_msh.proofs.SmoothFrame.{smooth-at}

-- An assignment outside its list would leave nothing of it, an assert that fails nothing of the
-- list that it stands beside; it holds whatever a read past an end, a difference below zero or a
-- quotient by zero would give.
pub rust-body : (outside : Outside) (arctangent : Float → Float → Twist) (d : Description) (c : List Float)
    → Asked d (vertices_in c) → rust_body outside arctangent d c ≡ paper_body (twist_by arctangent c) d c
unfolding cylinder-open-end-number-of-tri-and-vtx
rust-body outside arctangent (Ribbon width) c two =
    let m = vertices_in c - 1 in
    let is : vertices_in c ≡ m + 1 = omega arith in
    λ j. (ribbon-triangles outside c m is (omega arith) width j, ribbon-floats outside c m is (omega arith) width j)
rust-body outside arctangent (Tube n r) c two =
    let m = vertices_in c - 1 in
    let is : vertices_in c ≡ m + 1 = omega arith in
    let long = sized outside c m is (omega arith) in
    let last : minus outside (m + 1) 1 ≡ m = minus_is outside (m + 1) 1 m refl in
    rw (long, last) (λ j. (open-topology outside n m (omega arith) j, tube-floats outside c m is (omega arith) r n j))
rust-body outside arctangent (Capsule n L r) c (three, two, steps) =
    let m = vertices_in c - 1 in
    let is : vertices_in c ≡ m + 1 = omega arith in
    λ j. (capsule-triangles outside c m is (omega arith) r n L three steps j, capsule-floats outside c m is (omega arith) r n L three steps j)
rust-body outside arctangent (Torus n r) c two =
    let N = vertices_in c in
    let bins = polyloop3.vtx2framex outside (chunks c) in
    let frame_at = ex-at outside c N refl two in
    λ j. (
      torus-triangles outside c N refl two bins (vtx2framex N c) frame_at r n j,
      torus-over outside c N refl two bins (vtx2framex N c) frame_at r n j,
    )
rust-body outside arctangent (SeamlessTorus n r) c two =
    let N = vertices_in c in
    let bins = polyloop3.smooth-frame outside (λ s0 c0. turn_by (arctangent s0 c0)) (chunks c) in
    let frame = smooth_frame (twist_by arctangent c) N c in
    let frame_at = smooth-at outside arctangent c N refl two in
    λ j. (
      torus-triangles outside c N refl two bins frame frame_at r n j,
      torus-over outside c N refl two bins frame frame_at r n j,
    )
rust-body outside arctangent (ClosedCylinder n S centred r l) c (three, some) =
    λ j. (yup-triangles outside r l n S centred three some j, yup-floats outside r l n S centred three some j)

-- what 10, 20 and 21 permit has all that the Rust asks
permitted-asked : (d : Description) (N : ℕ) → ShapePermitted d N → Asked d N
permitted-asked (Ribbon width) N h = omega (arith, shape-bounds (Ribbon width) N h)
permitted-asked (Tube n r) N h = let b = shape-bounds (Tube n r) N h in omega (arith, b.1.0)
permitted-asked (Capsule n L r) N h = let b = shape-bounds (Capsule n L r) N h in (b.0.0, omega (arith, b.1.0), b.3)
permitted-asked (Torus n r) N h = let b = shape-bounds (Torus n r) N h in omega (arith, b.1.0)
permitted-asked (SeamlessTorus n r) N h = let b = shape-bounds (SeamlessTorus n r) N h in omega (arith, b.1.0)
permitted-asked (ClosedCylinder n S centred r l) N h =
    let b = shape-bounds (ClosedCylinder n S centred r l) N h in (b.0.0, b.1.0)

-- So it holds of all that `check` accepts, and with it of all that add does.
pub rust-body-accepted : (outside : Outside) (arctangent : Float → Float → Twist) (d : Description) (c : List Float)
    {body : Topology} → accepted body ≡ checked_of d c
    → rust_body outside arctangent d c ≡ paper_body (twist_by arctangent c) d c
rust-body-accepted outside arctangent d c answer =
    let told = accepted-by (checked_tests d c) (topology_of d (vertices_in c)) answer in
    rust-body outside arctangent d c (permitted-asked d (vertices_in c) (checked-shape d c told.1).1)

-- Of the body that add makes: with the k that it takes, which the search picks of s0 and c0.
abbrev searched : Float → Float → Twist
searched s0 c0 = chosen_twist c0 s0

pub rust-body-taken : (outside : Outside) (d : Description) (c : List Float) {body : Topology}
    → accepted body ≡ checked_of d c
    → rust_body outside searched d c ≡ paper_body (twist_taken d c) d c
rust-body-taken outside (Ribbon width) c answer = rust-body-accepted outside searched (Ribbon width) c answer
rust-body-taken outside (Tube n r) c answer = rust-body-accepted outside searched (Tube n r) c answer
rust-body-taken outside (Capsule n L r) c answer = rust-body-accepted outside searched (Capsule n L r) c answer
rust-body-taken outside (Torus n r) c answer = rust-body-accepted outside searched (Torus n r) c answer
rust-body-taken outside (ClosedCylinder n S centred r l) c answer =
    rust-body-accepted outside searched (ClosedCylinder n S centred r l) c answer
rust-body-taken outside (SeamlessTorus n r) c answer =
    rust-body-accepted outside searched (SeamlessTorus n r) c answer
