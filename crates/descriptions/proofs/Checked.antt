-- The corners at which a fold (13) is looked for. Assumes nothing.
use Rattle.std.proofs.Common.{ℕ, ◌-◌, arith}
use Rattle.curve.specs.Checks.{CornersWithin}
use Rattle.curve.proofs.Table.{loop-corners, inner-corners}
use Rattle.surface.specs.declared.grid.Chain.TheVariants as chain
use Rattle.descriptions.specs.Descriptions.{curve_chain, segment_count, corners_of}
use Rattle.descriptions.specs.declared.description.Description.{Description}
use Rattle.descriptions.specs.declared.description.Description.TheVariants.{Ribbon, Tube, Capsule, Torus}
use Rattle.descriptions.specs.declared.description.Description.TheVariants.{ClosedCylinder, SeamlessTorus}

-- each lies between two segments of the curve
pub corners-within : (d : Description) (N : ℕ) → CornersWithin (curve_chain d) (segment_count d N) (corners_of d N)
corners-within d N = of d where
  open-curve : CornersWithin chain.Open (N - 1) (N - 1 - 1)
  open-curve = inner-corners chain.Open (N - 1) (N - 1 - 1) (omega arith)

  of : (d : Description) → CornersWithin (curve_chain d) (segment_count d N) (corners_of d N)
  of (Ribbon w) = open-curve
  of (Tube n r) = open-curve
  of (Capsule n L r) = open-curve
  of (Torus n r) = inner-corners chain.Closed N (N - 1) (omega arith)
  of (ClosedCylinder n S centred r l) = open-curve
  of (SeamlessTorus n r) = loop-corners N N (omega arith)
