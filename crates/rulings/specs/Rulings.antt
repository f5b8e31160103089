-- "Proved together", document 01, 'Rulings and samples': the rulings over the definitions, as one
-- list. Assumes nothing.
use Rattle.std.specs.Prelude.{◌≡◌, refl, [], ◌∷◌, ℕ, ◌+◌, Float, length, get_or}
use Rattle.std.specs.Float.{binary32}
use Rattle.std.specs.Float.Ieee.{add, sub, mul, div, neg, le, lt, of_int, of_bits, to_bits}
use Rattle.float32.specs.Root.{root_of, root_of_units}
use Rattle.float32.specs.Scan.{all_finite}
use Rattle.float32.specs.WholeRoot.{whole_root, root_digits}
use Rattle.vec3.specs.Points.{difference_of, dot_of}
use Rattle.vec3.specs.Turns.{turn_of, within_octant, direction_of, part_of, in_octant, sine_of, cosine_of}
use Rattle.vec3.specs.Turns.{bracket, fraction, minus_fraction, whole}
use Rattle.vec3.specs.declared.turns.Direction.{Direction}
use Rattle.surface.specs.Triangles.{Triangle, triangle}
use Rattle.edges.specs.Edges.{edges, unmatched}
use Rattle.kinds.specs.Kinds.{vertex_count, triangle_count, triangles_of}
use Rattle.kinds.specs.declared.topology.Topology.{Topology}
use Rattle.kinds.specs.declared.topology.Topology.TheVariants.{Ribbon, Tube, Capsule, Torus}
use Rattle.curve.specs.Segments.{vertex_of, segment_of}
use Rattle.curve.specs.Checks.{segment_refused, segments_permitted, folds_permitted}
use Rattle.answers.specs.Answers.{Answer, refused, accepted}
use Rattle.descriptions.specs.declared.counts.Counts.{Counts}
use Rattle.descriptions.specs.Refusals.{counts_of, checked_of, size_permitted}
use Rattle.descriptions.specs.declared.description.Description.TheVariants as description

-- the f32 with a pattern, and a direction by the patterns of its cosine and sine
abbrev f32 : ℕ → Float
f32 = of_bits binary32

abbrev IsPair : Direction → ℕ → ℕ → Type 0
IsPair d c s = (to_bits binary32 d.cos ≡ c) × (to_bits binary32 d.sin ≡ s)

abbrev RootIs : ℕ → ℕ → Type 0
RootIs x r = to_bits binary32 (root_of (f32 x)) ≡ r

-- vertices and triangles of a body: the counts, the list's length, and triangle k of the list
abbrev Counted : Topology → ℕ → ℕ → Type 0
Counted t v n = (vertex_count t ≡ v) × (triangle_count t ≡ n) × (length (triangles_of t) ≡ n)

abbrev At : Topology → ℕ → Triangle → Type 0
At t k x = get_or (triangles_of t) k (triangle 0 0 0) ≡ x

abbrev Unmatched : Topology → ℕ → Type 0
Unmatched t n = unmatched (edges (triangles_of t)) ≡ n

-- capsule n 3, L 1, m 1; torus n 3, N 3; tube n 3, m 1; ribbon m 1
abbrev capsule : Topology
capsule = Capsule (record { divisions = 3; longitudes = 1; segments = 1 })

abbrev torus : Topology
torus = Torus (record { divisions = 3; vertices = 3 })

abbrev tube : Topology
tube = Tube (record { divisions = 3; segments = 1 })

abbrev ribbon : Topology
ribbon = Ribbon (record { segments = 1 })

-- a capsule of 3 divisions and L longitudes, and its counts along a curve of m segments
abbrev counts_along : ℕ → ℕ → Answer Counts
counts_along L m = counts_of (description.Capsule 3 L (f32 0x3F80_0000)) (m + 1)

-- a ribbon of width 1 along one segment from the origin
abbrev ribbon_to : ℕ → ℕ → ℕ → Answer Topology
ribbon_to x y z = checked_of (description.Ribbon (f32 0x3F80_0000)) (f32 0 ∷ f32 0 ∷ f32 0 ∷ f32 x ∷ f32 y ∷ f32 z ∷ [])

-- the same answer along each axis
abbrev AlongAxes : ℕ → Answer Topology → Type 0
AlongAxes long answer = (ribbon_to long 0 0 ≡ answer) × (ribbon_to 0 long 0 ≡ answer) × (ribbon_to 0 0 long ≡ answer)

pub record Rulings : Type 0 where
  -- turn(0,4) = (1, +0), turn(1,4) = (−0, 1), turn(2,4) = (−1, −0)
  pub m1 : IsPair (turn_of 0 4) 0x3F80_0000 0
      × IsPair (turn_of 1 4) 0x8000_0000 0x3F80_0000
      × IsPair (turn_of 2 4) 0xBF80_0000 0x8000_0000
  -- root of bits 40000000 is 3FB504F3, of 00000001 is 1A3504F3
  pub m2 : RootIs 0x4000_0000 0x3FB5_04F3 × RootIs 0x0000_0001 0x1A35_04F3
  -- 8 vertices, 12 triangles, first (0,1,2), last (7,4,6)
  pub m3 : Counted capsule 8 12 × At capsule 0 (triangle 0 1 2) × At capsule 11 (triangle 7 4 6)
  -- L 0, m 3 accepted, m 2 gives 21
  pub m4 : (counts_along 0 3 ≡ accepted (record { vertices = 8; triangles = 12 })) × (counts_along 0 2 ≡ refused 21)
  -- 9 and 18, ends (8,6,2), (0,2,6)
  pub m5 : Counted torus 9 18 × At torus 16 (triangle 8 6 2) × At torus 17 (triangle 0 2 6)
  -- starts (0,4,1), (0,3,4), 6 unmatched edges
  pub m6 : At tube 0 (triangle 0 4 1) × At tube 1 (triangle 0 3 4) × Unmatched tube 6
  -- 4 unmatched
  pub m7 : Unmatched ribbon 4
  -- a segment along an axis, of length 2^−20 accepted, half that gives 12; 35800000 is 2^−20,
  -- 35000000 half of it
  pub m8 : AlongAxes 0x3580_0000 (accepted ribbon) × AlongAxes 0x3500_0000 (refused 12)

pub rulings : Rulings
unfolding turn_of within_octant direction_of part_of in_octant sine_of cosine_of bracket fraction minus_fraction whole
    root_of root_of_units whole_root root_digits add sub mul div neg le lt of_int of_bits to_bits
    size_permitted all_finite segments_permitted segment_refused folds_permitted segment_of vertex_of
    difference_of dot_of
rulings = record {
  m1 = ((refl, refl), (refl, refl), (refl, refl));
  m2 = (refl, refl);
  m3 = ((refl, refl, refl), refl, refl);
  m4 = (refl, refl);
  m5 = ((refl, refl, refl), refl, refl);
  m6 = (refl, refl, refl);
  m7 = refl;
  m8 = ((refl, refl, refl), (refl, refl, refl));
}
