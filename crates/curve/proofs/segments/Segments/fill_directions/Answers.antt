-- Each turn of the loop writes one direction after those before it. Assumes nothing.
use Rattle.curve.specs.Segments.{segment_direction}
use Rattle.curve.proofs.Points.{point_stored}
use Rattle.curve.proofs.segments.Segments.fill_directions.Goals as goal

pub loop-k-preserved : goal.loop-k-preserved
loop-k-preserved c =
    let l = c.loop-k in
    let s = c.args.self in
    point_stored l.k (segment_direction s.chain s.count s.curve.now) c.args.out.now l.invariant c.direction.ensures
