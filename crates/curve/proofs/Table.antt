-- The table of directions: its length, each of its directions in a buffer at whose front it was
-- written, and that any table of these directions has the curve's own folds. Assumes nothing.
use Rattle.std.proofs.Common.{◌≡◌, refl, ◌∙◌, not, List, [], ◌∷◌, ℕ, ◌+◌, ◌-◌, ◌≤◌, ◌<◌, mod-lt, arith, Float}
use Rattle.std.proofs.Common.{length}
use Rattle.laws.proofs.Blocks.{length-blocks}
use Rattle.laws.proofs.Every.{every-cong}
use Rattle.laws.specs.Overwrite.{overwrite}
use Rattle.surface.specs.Grid.{after_of}
use Rattle.surface.specs.declared.grid.Chain.{Chain}
use Rattle.surface.specs.declared.grid.Chain.TheVariants.{Open, Closed}
use Rattle.vec3.specs.Points.{point_in}
use Rattle.vec3.specs.declared.points.Point.{Point}
use Rattle.curve.specs.Segments.{segment_direction, directions_of}
use Rattle.curve.specs.Checks.{is_fold, corner_cosine, folds_permitted, cosine_in, no_fold_in, CornersWithin}
use Rattle.curve.proofs.Points.{table-point}

module _ (chain : Chain) (count : ℕ) (c : List Float) where
  pub length-directions : length (directions_of chain count c) ≡ count
  unfolding directions_of
  length-directions =
      let sized = length-blocks 1 count (λ k. segment_direction chain count c k ∷ []) (λ k h. refl) in
      sized ∙ omega arith

  -- each direction of the table at the front of a buffer
  pub table-direction : (table₀ : List Point) (k : ℕ) → count ≤ length table₀ → k < count
      → point_in (overwrite 0 (directions_of chain count c) table₀) k ≡ segment_direction chain count c k
  unfolding directions_of
  table-direction table₀ k room h =
      table-point 0 count (segment_direction chain count c) table₀ k (omega arith) h (omega arith)

  -- c by a table of the curve's directions is the curve's
  table-cosine : (t : List Point) → ((j : ℕ) → j < count → point_in t j ≡ segment_direction chain count c j)
      → (k : ℕ) → k < count → after_of chain count k < count
      → cosine_in chain count t k ≡ corner_cosine chain count c k
  unfolding cosine_in corner_cosine
  table-cosine t has k h next = rw (has k h, has (after_of chain count k) next) refl

  -- 13 by such a table is 13 of the curve
  pub folds-in-table : (corners : ℕ) (t : List Point)
      → ((j : ℕ) → j < count → point_in t j ≡ segment_direction chain count c j) → CornersWithin chain count corners
      → no_fold_in chain count corners t ≡ folds_permitted chain count corners c
  unfolding no_fold_in folds_permitted
  folds-in-table corners t has within =
      every-cong corners
      (λ k. not (is_fold (cosine_in chain count t k)))
      (λ k. not (is_fold (corner_cosine chain count c k)))
      (λ k h i. not (is_fold (table-cosine t has k (within k h).0 (within k h).1 i)))

-- on a loop every segment has one after it, so it has as many corners as segments
pub loop-corners : (count corners : ℕ) → corners ≤ count → CornersWithin Closed count corners
loop-corners count corners h k l = (omega arith, mod-lt (k + 1) (omega arith))

-- on any curve all but the last segment have one after them
pub inner-corners : (chain : Chain) (count corners : ℕ) → corners ≤ count - 1 → CornersWithin chain count corners
inner-corners Open count corners h k l = (omega arith, omega arith)
inner-corners Closed count corners h k l = loop-corners count corners (omega arith) k l
