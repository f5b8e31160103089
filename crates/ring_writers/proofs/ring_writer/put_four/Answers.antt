-- Each turn of the loop writes one point after those before it. Assumes nothing.
use Rattle.std.proofs.Common.{refl, arith}
use Rattle.curve.proofs.Points.{point_written}
use Rattle.vec3.specs.Points.{point_in}
use Rattle.ring_writers.proofs.ring_writer.put_four.Goals as goal

pub loop-k-preserved : goal.loop-k-preserved
loop-k-preserved c =
    let l = c.loop-k in
    let a = c.args in
    point_written 0 l.k (point_in a.points) a.out.now l.invariant (omega arith) c.put_point.ensures refl
