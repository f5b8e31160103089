-- The folds (13) of a curve are those that the table of its directions has. Assumes nothing.
use Rattle.std.proofs.Common.{◌≡◌, List, Float}
use Rattle.vec3.specs.declared.points.Point.{Point}
use Rattle.curve.specs.Segments.{vertices_in}
use Rattle.curve.specs.Checks.{no_fold_in}
use Rattle.curve.proofs.Table.{folds-in-table}
use Rattle.descriptions.specs.Descriptions.{curve_chain, segment_count, corners_of}
use Rattle.descriptions.specs.Refusals.{curve_folds_permitted}
use Rattle.descriptions.specs.declared.description.Description.{Description}
use Rattle.descriptions.proofs.Checked.{corners-within}
use Rattle.swept_bodies.proofs.Tables.{written-table}
use Rattle.bodies.specs.Bodies.{CurveDirections}

-- 13 by the table is 13 of the curve
pub folds-in-directions : (d : Description) (c : List Float) (table : List Point) → CurveDirections d c table
    → no_fold_in (curve_chain d) (segment_count d (vertices_in c)) (corners_of d (vertices_in c)) table
    ≡ curve_folds_permitted d c
folds-in-directions d c table along =
    let N = vertices_in c in
    folds-in-table (curve_chain d) (segment_count d N) c (corners_of d N) table along.direction (corners-within d N)

-- what is known of a table that was filled
pub ruleset directions = (written-table, folds-in-directions)
