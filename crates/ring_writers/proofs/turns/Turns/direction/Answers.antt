-- The first of the three cosines, and of the sines.
use Rattle.std.proofs.Common.{arith}
use Rattle.vec3.specs.Points.{thrice}
use Rattle.vec3.specs.Turns.{pair}
use Rattle.ring_writers.proofs.turns.Turns.direction.Goals as goal

pub returns : goal.returns
unfolding thrice
returns c =
    let table = c.self.invariant in
    rw (← c.self.view_is)
    (λ j. pair (table.cosine c.args.i (omega arith) j).x (table.sine c.args.i (omega arith) j).x)
