-- What is refused of a curve's segments and corners. Document 01, 'Refused, and through whom'.
-- Definitions only.
use Rattle.std.specs.Prelude.{Bool, not, ◌||◌, List, ℕ, ◌<◌, Float}
use Rattle.std.specs.Float.{binary32}
use Rattle.std.specs.Float.Ieee.{of_bits, lt}
use Rattle.std.specs.Float.Ieee.Scale.{finite}
use Rattle.laws.specs.Every.{every}
use Rattle.surface.specs.Grid.{after_of}
use Rattle.surface.specs.declared.grid.Chain.{Chain}
use Rattle.vec3.specs.Points.{plus, dot_of, point_in}
use Rattle.vec3.specs.declared.points.Point.{Point}
use Rattle.curve.specs.Segments.{segment_of, segment_direction}

-- 12: "a segment .. whose difference dotted with itself is below 2^−40 or above 2^80 or not
-- finite". 2B800000 is 2^−40, 67800000 is 2^80.
unfoldable pub segment_refused : Point → Bool
segment_refused v =
    let d = dot_of v v in
    lt d (of_bits binary32 0x2B80_0000) || lt (of_bits binary32 0x6780_0000) d || not (finite d)

-- "(with the torus's closing one)": segment k for every k below the number of segments
unfoldable pub segments_permitted : Chain → ℕ → List Float → Bool
segments_permitted chain count c = every count (λ k. not (segment_refused (segment_of chain count c k)))

-- "c = dot(u, w)" for "segment directions normalised u, w" ('Arithmetic', of a transport step), at
-- corner k: u is the direction of segment k, which ends there, w that of the segment after it.
unfoldable pub corner_cosine : Chain → ℕ → List Float → ℕ → Float
corner_cosine chain count c k =
    dot_of (segment_direction chain count c k) (segment_direction chain count c (after_of chain count k))

-- 13: "a fold: 1 + c below 2^−12". 3F800000 is 1, 39800000 is 2^−12.
unfoldable pub is_fold : Float → Bool
is_fold c = lt (plus (of_bits binary32 0x3F80_0000) c) (of_bits binary32 0x3980_0000)

-- None of the first `corners` corners is a fold (13); how many of them 13 covers is `corners_of`
-- (crate descriptions). Corner k stands at vertex k + 1, on a loop the last one at vertex 0.
unfoldable pub folds_permitted : Chain → ℕ → ℕ → List Float → Bool
folds_permitted chain count corners c = every corners (λ k. not (is_fold (corner_cosine chain count c k)))

-- c and folds again, from a table that holds the directions of the segments: the law
-- `folds-in-table` of the proofs says that they are the curve's.
unfoldable pub cosine_in : Chain → ℕ → List Point → ℕ → Float
cosine_in chain count table k = dot_of (point_in table k) (point_in table (after_of chain count k))

unfoldable pub no_fold_in : Chain → ℕ → ℕ → List Point → Bool
no_fold_in chain count corners table = every corners (λ k. not (is_fold (cosine_in chain count table k)))

-- Each of the first `corners` corners lies between two segments of the curve.
abbrev pub CornersWithin : Chain → ℕ → ℕ → Type 0
CornersWithin chain count corners = (k : ℕ) → k < corners → (k < count) × (after_of chain count k < count)
