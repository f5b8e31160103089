-- The refusals 10 to 13 and 20 to 22, in the order of their numbers, and the orders in which they
-- are tried. Document 01, 'Refused, and through whom', and document 02, No. 1: "Kind 6 has kind
-- 4's .. limits". Each is said by what is permitted; it refuses where that is false. Definitions
-- only.
use Rattle.std.specs.Prelude.{Bool, true, ◌&&◌, List, [], ◌∷◌, ◌++◌, ℕ, ◌-◌, ◌%◌, ◌/◌, eqb, Float, length}
use Rattle.std.specs.Float.{binary32}
use Rattle.std.specs.Float.Ieee.{of_bits, lt}
use Rattle.std.specs.Float.Ieee.Scale.{finite}
use Rattle.float32.specs.Scan.{all_finite}
use Rattle.kinds.specs.Limits.{between, longitudes_permitted, layers_permitted, least_loop, most_loop}
use Rattle.kinds.specs.Limits.{least_round, most_round}
use Rattle.kinds.specs.Kinds.{vertex_count, triangle_count}
use Rattle.kinds.specs.declared.topology.Topology.{Topology}
use Rattle.curve.specs.Checks.{segments_permitted, folds_permitted}
use Rattle.answers.specs.Answers.{Answer, Test, test, AllPermitted, first_of}
use Rattle.descriptions.specs.declared.counts.Counts.{Counts}
use Rattle.descriptions.specs.KindNumbers.{divisions_of}
use Rattle.descriptions.specs.Descriptions.{curve_chain, segment_count, corners_of, topology_of}
use Rattle.descriptions.specs.declared.description.Description.{Description}
use Rattle.descriptions.specs.declared.description.Description.TheVariants.{Ribbon, Tube, Capsule, Torus}
use Rattle.descriptions.specs.declared.description.Description.TheVariants.{ClosedCylinder, SeamlessTorus}

-- 10 of an open curve: "vertices outside 2 to 4,096"
abbrev pub least_open : ℕ
least_open = 2

abbrev pub most_open : ℕ
most_open = 4096

abbrev pub open_vertices_permitted : ℕ → Bool
open_vertices_permitted N = between least_open most_open N

-- 10 by the kind: "vertices outside 2 to 4,096 (torus 3 to 4,096, closed cylinder 0)"
abbrev pub least_vertices : Description → ℕ
least_vertices (Ribbon w) = least_open
least_vertices (Tube n r) = least_open
least_vertices (Capsule n L r) = least_open
least_vertices (Torus n r) = least_loop
least_vertices (ClosedCylinder n S centred r l) = 0
least_vertices (SeamlessTorus n r) = least_loop

abbrev pub most_vertices : Description → ℕ
most_vertices (Ribbon w) = most_open
most_vertices (Tube n r) = most_open
most_vertices (Capsule n L r) = most_open
most_vertices (Torus n r) = most_loop
most_vertices (ClosedCylinder n S centred r l) = 0
most_vertices (SeamlessTorus n r) = most_loop

abbrev pub vertices_permitted : Description → ℕ → Bool
vertices_permitted d N = between (least_vertices d) (most_vertices d) N

-- 10 of a curve: no "length not a multiple of 3"
abbrev pub whole_vertices : List Float → Bool
whole_vertices c = eqb (length c % 3) 0

-- all of 10, for an open curve without a description and for the curve of a description
abbrev pub open_curve_permitted : List Float → Bool
open_curve_permitted c = whole_vertices c && open_vertices_permitted (length c / 3)

abbrev pub curve_permitted : Description → List Float → Bool
curve_permitted d c = whole_vertices c && vertices_permitted d (length c / 3)

-- 12 and 13, over the curve's segments and the corners that 13 covers
abbrev pub curve_segments_permitted : Description → List Float → Bool
curve_segments_permitted d c = segments_permitted (curve_chain d) (segment_count d (length c / 3)) c

abbrev pub curve_folds_permitted : Description → List Float → Bool
curve_folds_permitted d c =
    let N = length c / 3 in
    folds_permitted (curve_chain d) (segment_count d N) (corners_of d N) c

-- 20: "n outside 3 to 256 (not ribbon)", whose n is 0
abbrev pub least_divisions : Description → ℕ
least_divisions (Ribbon w) = 0
least_divisions (Tube n r) = least_round
least_divisions (Capsule n L r) = least_round
least_divisions (Torus n r) = least_round
least_divisions (ClosedCylinder n S centred r l) = least_round
least_divisions (SeamlessTorus n r) = least_round

abbrev pub most_divisions : Description → ℕ
most_divisions (Ribbon w) = 0
most_divisions (Tube n r) = most_round
most_divisions (Capsule n L r) = most_round
most_divisions (Torus n r) = most_round
most_divisions (ClosedCylinder n S centred r l) = most_round
most_divisions (SeamlessTorus n r) = most_round

abbrev pub round_permitted : Description → Bool
round_permitted d = between (least_divisions d) (most_divisions d) (divisions_of d)

-- 21: "L above 256 or 2L + m below 3; layers S outside 1 to 4,096"
abbrev pub lengthwise_permitted : Description → ℕ → Bool
lengthwise_permitted (Ribbon w) N = true
lengthwise_permitted (Tube n r) N = true
lengthwise_permitted (Capsule n L r) N = longitudes_permitted L (N - 1)
lengthwise_permitted (Torus n r) N = true
lengthwise_permitted (ClosedCylinder n S centred r l) N = layers_permitted S
lengthwise_permitted (SeamlessTorus n r) N = true

-- 22: "radius, width or length not finite or not above 0"
unfoldable pub size_permitted : Float → Bool
size_permitted x = finite x && lt (of_bits binary32 0) x

abbrev pub sizes_permitted : Description → Bool
sizes_permitted (Ribbon w) = size_permitted w
sizes_permitted (Tube n r) = size_permitted r
sizes_permitted (Capsule n L r) = size_permitted r
sizes_permitted (Torus n r) = size_permitted r
sizes_permitted (ClosedCylinder n S centred r l) = size_permitted r && size_permitted l
sizes_permitted (SeamlessTorus n r) = size_permitted r

-- 10, 20, 21 of a number of curve vertices
abbrev pub shape_tests : Description → ℕ → List Test
shape_tests d N =
    test 10 (vertices_permitted d N) ∷ test 20 (round_permitted d) ∷ test 21 (lengthwise_permitted d N) ∷ []

abbrev pub ShapePermitted : Description → ℕ → Type 0
ShapePermitted d N = AllPermitted (shape_tests d N)

abbrev pub shape_of : Description → ℕ → Answer Topology
shape_of d N = first_of (shape_tests d N) (topology_of d N)

-- "Counts takes the description and curve vertex count: 10, 20, 21, 22."
abbrev pub counts_tests : Description → ℕ → List Test
counts_tests d N = shape_tests d N ++ (test 22 (sizes_permitted d) ∷ [])

abbrev pub body_counts : Topology → Counts
body_counts body = record { vertices = vertex_count body; triangles = triangle_count body }

-- both counts, in the order in which the C interface has them
abbrev pub count_words : Counts → List ℕ
count_words k = k.vertices ∷ k.triangles ∷ []

abbrev pub counts_of : Description → ℕ → Answer Counts
counts_of d N = first_of (counts_tests d N) (body_counts (topology_of d N))

-- 22, 11 and 12, as they follow one another in `checked_tests`
abbrev pub float_tests : Description → List Float → List Test
float_tests d c = test 22 (sizes_permitted d) ∷ test 11 (all_finite c) ∷ test 12 (curve_segments_permitted d c) ∷ []

-- 10, 20, 21 of a curve
abbrev pub curve_shape_tests : Description → List Float → List Test
curve_shape_tests d c =
    let N = length c / 3 in
    test 10 (curve_permitted d c) ∷ test 20 (round_permitted d) ∷ test 21 (lengthwise_permitted d N) ∷ []

abbrev pub curve_shape_of : Description → List Float → Answer Topology
curve_shape_of d c = first_of (curve_shape_tests d c) (topology_of d (length c / 3))

-- `checked_tests` without its end: all that is tried before a segment's direction is worked out
abbrev pub segment_tests : Description → List Float → List Test
segment_tests d c = curve_shape_tests d c ++ float_tests d c

abbrev pub segments_checked_of : Description → List Float → Answer Topology
segments_checked_of d c = first_of (segment_tests d c) (topology_of d (length c / 3))

-- its end: a fold (13)
abbrev pub fold_tests : Description → List Float → List Test
fold_tests d c = test 13 (curve_folds_permitted d c) ∷ []

-- "Add's order: 1, 10, 20, 21, 22, 11, 12, 13, 2, 3, 4, 23", as far as no table is needed.
abbrev pub checked_tests : Description → List Float → List Test
checked_tests d c = segment_tests d c ++ fold_tests d c

abbrev pub checked_of : Description → List Float → Answer Topology
checked_of d c = first_of (checked_tests d c) (topology_of d (length c / 3))
