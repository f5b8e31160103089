-- A turn of the loop writes the direction after those before it.
use Rattle.std.proofs.Common.{ap, ◌∙◌, arith, length-set}
use Rattle.std.specs.Float.{nan}
use Rattle.std.proofs.lemmas.List.Edits.{fill_by_more}
use Rattle.vec3.specs.Points.{thrice}
use Rattle.vec3.specs.Turns.{turn_of}
use Rattle.vec3.specs.declared.points.Point.{Point}
use Rattle.vec3.specs.declared.turns.Direction.{Direction}
use Rattle.ring_writers.proofs.turns.Turns.fill.Goals as goal

pub loop-i-preserved : goal.loop-i-preserved
loop-i-preserved c =
    let l = c.loop-i in
    let n = c.args.n in
    let none : Point = record { x = nan; y = nan; z = nan } in
    let cos = c.thrice.ensures ∙ ap (λ (d : Direction). thrice d.cos) c.turn-d.ensures in
    let sin = c.thrice-in-loop-i.ensures ∙ ap (λ (d : Direction). thrice d.sin) c.turn-d.ensures in record {
      cosines = simp length-set l.invariant.cosines;
      sines = simp length-set l.invariant.sines;
      cosine = rw cos (fill_by_more (λ k. thrice (turn_of k n).cos) l.self-inside.cosines l.i none (omega arith) l.invariant.cosine);
      sine = rw sin (fill_by_more (λ k. thrice (turn_of k n).sin) l.self-inside.sines l.i none (omega arith) l.invariant.sine);
    }
