-- Each turn of the loop writes one vertex after those before it.
use Rattle.std.proofs.Common.{◌∙◌, ap, ℕ, arith}
use Rattle.vec3.specs.Turns.{turn_of}
use Rattle.curve.proofs.Points.{point_written}
use Rattle.rings.specs.Vertices.{level_at}
use Rattle.ring_writers.proofs.ring_writer.write_level.Goals as goal

pub loop-i-preserved : goal.loop-i-preserved
loop-i-preserved c =
    let l = c.loop-i in
    let a = c.args in
    point_written 0 l.i (λ (k : ℕ). level_at a.radius a.y (turn_of k a.turns.now)) a.out.now l.invariant (omega arith)
    c.put_point.ensures
    (c.level.ensures ∙ ap (level_at a.radius a.y) c.direction.ensures)
