-- The vertices of a body alone: "the vertices and local triangles that this paper's definitions
-- give its description and curve" (document 01, 'The shared set'; the triangles are `triangles_of
-- (topology_of ..)` of the crates kinds and descriptions). That of a seamless torus has a twist, k:
-- "one k for the whole body" (document 02, No. 1). Definitions only.
use Rattle.std.specs.Prelude.{◌≡◌, Bool, true, ◌&&◌, List, ℕ, ◌+◌, ◌-◌, Float}
use Rattle.laws.specs.Blocks.{blocks}
use Rattle.float32.specs.Scan.{all_finite}
use Rattle.vec3.specs.declared.points.Point.{Point}
use Rattle.surface.specs.Limits.{fits}
use Rattle.kinds.specs.Kinds.{vertex_count}
use Rattle.curve.specs.Segments.{vertices_in}
use Rattle.answers.specs.Answers.{is_accepted}
use Rattle.descriptions.specs.Descriptions.{curve_chain, segment_count, topology_of}
use Rattle.descriptions.specs.Refusals.{whole_vertices, shape_of}
use Rattle.descriptions.specs.declared.description.Description.{Description}
use Rattle.descriptions.specs.declared.description.Description.TheVariants.{Ribbon, Tube, Capsule}
use Rattle.descriptions.specs.declared.description.Description.TheVariants.{Torus, ClosedCylinder, SeamlessTorus}
use Rattle.ring_writers.specs.ClosedCylinder.{cylinder_part}
use Rattle.swept_bodies.specs.Polyline3.{ribbon_part, tube_ring}
use Rattle.swept_bodies.specs.Polyloop3.{torus_part}
use Rattle.swept_bodies.specs.Capsule.{capsule_part}
use Rattle.swept_bodies.specs.Tables.{DirectionTable}
use Rattle.twists.specs.Twists.{forward, Best}
use Rattle.twists.specs.declared.twist.Twist.{Twist}
use Rattle.seamless_torus.specs.Polyloop3.{ends_of, ends_finite, twist_of, seamless_part, drawn_radius}

-- What stands at curve vertex g: a ribbon's pair, a ring of a tube or a torus, of a capsule also
-- its poles and caps; of a closed cylinder, which has no curve, ring g, and the pole at an end. An
-- open curve of N vertices has m = N − 1 segments, and m + 1 parts. Only a seamless torus goes by
-- k.
abbrev pub part_of : Twist → Description → List Float → ℕ → List Float
part_of k (Ribbon w) c = ribbon_part w (vertices_in c - 1) c
part_of k (Tube n r) c = tube_ring n r (vertices_in c - 1) c
part_of k (Capsule n L r) c = capsule_part n L r (vertices_in c - 1) c
part_of k (Torus n r) c = torus_part n r (vertices_in c) c
part_of k (ClosedCylinder n S centred r l) c = cylinder_part r l n S centred
part_of k (SeamlessTorus n r) c = seamless_part k n r (vertices_in c) c

abbrev pub part_count : Description → List Float → ℕ
part_count (Ribbon w) c = vertices_in c - 1 + 1
part_count (Tube n r) c = vertices_in c - 1 + 1
part_count (Capsule n L r) c = vertices_in c - 1 + 1
part_count (Torus n r) c = vertices_in c
part_count (ClosedCylinder n S centred r l) c = S + 1
part_count (SeamlessTorus n r) c = vertices_in c

-- the vertices: the parts, one after the other
abbrev pub vertices_of : Twist → Description → List Float → List Float
vertices_of k d c = blocks (part_count d c) (part_of k d c)

-- "23 also covers a c0, s0 or score that isn't finite" (document 02, No. 1): whether there is none
abbrev pub twist_finite : Description → List Float → Bool
twist_finite (Ribbon w) c = true
twist_finite (Tube n r) c = true
twist_finite (Capsule n L r) c = true
twist_finite (Torus n r) c = true
twist_finite (ClosedCylinder n S centred r l) c = true
twist_finite (SeamlessTorus n r) c = ends_finite (vertices_in c) c

-- what 23 asks: that, and not "a vertex coordinate worked out isn't finite"
abbrev pub floats_finite : Twist → Description → List Float → Bool
floats_finite k d c = twist_finite d c && all_finite (vertices_of k d c)

-- "each addition of kind 6 .. whose scores are finite, has one such k": what is true of k, and all
-- that is promised of it
abbrev pub BestTwist : Description → List Float → Twist → Type 0
BestTwist (Ribbon w) c k = Unit
BestTwist (Tube n r) c k = Unit
BestTwist (Capsule n L r) c k = Unit
BestTwist (Torus n r) c k = Unit
BestTwist (ClosedCylinder n S centred r l) c k = Unit
BestTwist (SeamlessTorus n r) c k =
    let ends = ends_of (vertices_in c) c in
    ends_finite (vertices_in c) c ≡ true → Best ends.c0 ends.s0 k

-- The k that the code takes. Bodies of the other kinds have no twist, and 0 stands for it.
abbrev pub twist_taken : Description → List Float → Twist
twist_taken (Ribbon w) c = forward 0
twist_taken (Tube n r) c = forward 0
twist_taken (Capsule n L r) c = forward 0
twist_taken (Torus n r) c = forward 0
twist_taken (ClosedCylinder n S centred r l) c = forward 0
twist_taken (SeamlessTorus n r) c = twist_of (vertices_in c) c

-- What the code writes for a body alone: its vertices with that k, and where c0, s0 or a score is
-- not finite, NaNs, by a radius that is one.
abbrev pub marked : Description → List Float → Description
marked (Ribbon w) c = Ribbon w
marked (Tube n r) c = Tube n r
marked (Capsule n L r) c = Capsule n L r
marked (Torus n r) c = Torus n r
marked (ClosedCylinder n S centred r l) c = ClosedCylinder n S centred r l
marked (SeamlessTorus n r) c = SeamlessTorus n (drawn_radius r (ends_finite (vertices_in c) c))

abbrev pub drawn_of : Description → List Float → List Float
drawn_of d c = vertices_of (twist_taken d c) (marked d c) c

-- Whether the vertices can be written into a buffer of `room` numbers: whole vertices in the curve
-- (10), a shape that 10, 20 and 21 do not refuse, and vertices that do not "exceed their buffer"
-- (of 3); of a permitted shape they are never more than 2^28. What the floats are plays no part.
unfoldable pub drawable : Description → List Float → ℕ → Bool
drawable d c room =
    let N = vertices_in c in
    whole_vertices c && (is_accepted (shape_of d N) && fits (vertex_count (topology_of d N)) room)

-- the table of the directions of a body's curve
abbrev pub CurveDirections : Description → List Float → List Point → Type 0
CurveDirections d c table = DirectionTable (curve_chain d) (segment_count d (vertices_in c)) c table
