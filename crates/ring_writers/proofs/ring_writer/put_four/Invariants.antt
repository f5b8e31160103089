-- Each turn of the loop writes one point after those before it.
use Rattle.std.proofs.Common.{◌≡◌}
use Rattle.laws.specs.Overwrite.{overwrite}
use Rattle.laws.specs.Blocks.{blocks}
use Rattle.vec3.specs.Points.{coordinates, point_in}
use Rattle.ring_writers.proofs.ring_writer.put_four.Given as goal

abbrev pub invariant-loop-k : goal.invariant-loop-k
invariant-loop-k l = l.out ≡ overwrite 0 (blocks l.k (λ k. coordinates (point_in l.fn.points k))) l.initial.out
