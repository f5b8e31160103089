-- Each turn of the loop writes one score after those before it.
use Rattle.std.proofs.Common.{◌∙◌, length-set, arith}
use Rattle.twists.proofs.Tables.{each-more}
use Rattle.twists.proofs.scores.fill.Goals as goal

pub loop-j-preserved : goal.loop-j-preserved
loop-j-preserved g c =
    let l = c.loop-j in
    let v = l.invariant in
    record {
      sized = length-set l.out l.j c.score.result ∙ v.sized;
      written = each-more (goal.F-post g c.args.score) l.j l.out (omega arith) v.written c.score.ensures;
    }
