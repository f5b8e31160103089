-- A body as the functions of del-msh make it of a description and a curve: which of them each
-- kind calls, and with what, as tests/src/adapted.rs does. "Torus and ribbon there get the frames
-- of `vtx2framex`" (document 01, 'Kept from the Rust, and written anew'); kind 6 gets those of
-- `smooth_frame`, with a k "standing for its arctangent" (document 02, No. 1). Definitions only.
use Rattle.std.specs.Prelude.{List, [], ◌∷◌, ℕ, ◌+◌, ◌-◌, ◌*◌, ◌≤◌, ◌<◌, Float}
use Rattle.surface.specs.Triangles.{Triangle}
use Rattle.vec3.specs.declared.points.Point.{Point}
use Rattle.twists.specs.declared.twist.Twist.{Twist}
use Rattle.kinds.specs.Kinds.{triangles_of}
use Rattle.curve.specs.Segments.{vertices_in}
use Rattle.descriptions.specs.Descriptions.{topology_of}
use Rattle.descriptions.specs.declared.description.Description.{Description}
use Rattle.descriptions.specs.declared.description.Description.TheVariants.{Ribbon, Tube, Capsule}
use Rattle.descriptions.specs.declared.description.Description.TheVariants.{Torus, ClosedCylinder, SeamlessTorus}
use Rattle.seamless_torus.specs.Polyloop3.{ends_of}
use Rattle.bodies.specs.Bodies.{vertices_of}
use Rattle.del_msh.specs.Vectors.{vec, len}
use Rattle.del_msh.specs.Arrays.{Outside, minus, xyz, zeros, zero_triangle}
use Rattle.del_msh.specs.DelGeoCore.{Angle}
use Rattle.del_msh.specs.Trimesh3Primitive.{TriMesh, cylinder-open-end-number-of-tri-and-vtx}
use Rattle.del_msh.specs.Trimesh3Primitive.{cylinder-open-end-set-topology, cylinder-closed-end-yup}
use Rattle.del_msh.specs.Polyline3 as polyline3
use Rattle.del_msh.specs.Polyloop3 as polyloop3

-- `curve.chunks_exact(3)`, each made a point: floats past the last whole three are left out
abbrev pub chunks : List Float → List Point
chunks [] = []
chunks (x ∷ []) = []
chunks (x ∷ y ∷ []) = []
chunks (x ∷ y ∷ z ∷ rest) = xyz x y z ∷ chunks rest

-- "Vertices are three f32 each" ('The shared set'): the floats of a list of points
abbrev pub floats : List Point → List Float
floats [] = []
floats (p ∷ points) = p.x ∷ p.y ∷ p.z ∷ floats points

-- k/4096 turn, as an angle
abbrev pub turn_by : Twist → Angle
turn_by k = record { k = k.steps; n = 4096; negative = k.backward }

-- `arctangent` is what stands for it, of s0 and c0: any k of each.
module _ (outside : Outside) (arctangent : Float → Float → Twist) where
  -- "The source fills slices here, whose lengths its caller works out."
  abbrev pub tube : List Point → ℕ → Float → TriMesh
  tube curve divisions radius =
      let counts = cylinder-open-end-number-of-tri-and-vtx divisions (minus outside (len curve) 1) in
      let tri2vtx = vec zero_triangle counts.0 in
      let vtx2xyz = vec zeros counts.1 in
      let tri2vtx = cylinder-open-end-set-topology outside tri2vtx (len curve) in
      let vtx2xyz = polyline3.set-vtx2xyz-for-generalized-cylinder-open-end outside vtx2xyz curve radius in
      (tri2vtx, vtx2xyz)

  abbrev pub body : Description → List Float → TriMesh
  body (Ribbon width) c =
      polyline3.to-trimesh3-ribbon outside (chunks c) (polyline3.vtx2framex outside (chunks c)) width
  body (Tube divisions radius) c = tube (chunks c) divisions radius
  body (Capsule divisions longitudes radius) c =
      polyline3.to-trimesh3-capsule outside (chunks c) divisions longitudes radius
  body (Torus divisions radius) c =
      polyloop3.to-trimesh3-torus outside (chunks c) (polyloop3.vtx2framex outside (chunks c)) radius divisions
  body (ClosedCylinder divisions layers centred radius length) c =
      cylinder-closed-end-yup outside radius length divisions layers centred
  body (SeamlessTorus divisions radius) c =
      polyloop3.to-trimesh3-torus outside (chunks c)
      (polyloop3.smooth-frame outside (λ s0 c0. turn_by (arctangent s0 c0)) (chunks c)) radius divisions

  -- triangles, and the floats of its vertices
  abbrev pub rust_body : Description → List Float → List Triangle × List Float
  rust_body d c = ((body d c).0, floats (body d c).1)

-- The same of document 01: "the vertices and local triangles that this paper's definitions give
-- its description and curve" ('The shared set'), with the twist k of kind 6
abbrev pub paper_body : Twist → Description → List Float → List Triangle × List Float
paper_body k d c = (triangles_of (topology_of d (vertices_in c)), vertices_of k d c)

-- the k that stands for the arctangent on a curve: that of document 02's s0 and c0
abbrev pub twist_by : (Float → Float → Twist) → List Float → Twist
twist_by arctangent c = let ends = ends_of (vertices_in c) c in arctangent ends.s0 ends.c0

-- What the Rust asks of its caller, of a curve of N vertices: the first segment, which it reads
-- untested, `ndiv_circum > 2`, and `ndiv_length >= 1`, which of a capsule's 2L + m − 2 layers
-- says 3 ≤ 2L + m.
abbrev pub Asked : Description → ℕ → Type 0
Asked (Ribbon width) N = 2 ≤ N
Asked (Tube n r) N = 2 ≤ N
Asked (Capsule n L r) N = (2 < n) × (2 ≤ N) × (3 ≤ 2 * L + (N - 1))
Asked (Torus n r) N = 2 ≤ N
Asked (ClosedCylinder n S centred r l) N = (2 < n) × (1 ≤ S)
Asked (SeamlessTorus n r) N = 2 ≤ N
