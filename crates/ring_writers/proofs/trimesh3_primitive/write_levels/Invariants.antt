-- Each turn of the loop writes one ring after those before it.
use Rattle.std.proofs.Common.{◌≡◌}
use Rattle.laws.specs.Overwrite.{overwrite}
use Rattle.laws.specs.Blocks.{blocks}
use Rattle.ring_writers.specs.ClosedCylinder.{cylinder_ring}
use Rattle.ring_writers.proofs.trimesh3_primitive.write_levels.Given as goal

abbrev pub invariant-loop-g : goal.invariant-loop-g
invariant-loop-g l =
    l.out ≡ overwrite 0 (blocks l.g (cylinder_ring l.radius l.low l.height l.layers l.turns)) l.initial.out
