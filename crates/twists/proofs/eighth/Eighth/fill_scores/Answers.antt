-- Each return is one of the laws of the scores by place: those of forward steps, of backward steps
-- with forward step 2048 at their head, and of backward steps.
use Rattle.std.proofs.Common.{ap, ◌∙◌, arith}
use Rattle.twists.specs.Twists.{score_of}
use Rattle.twists.proofs.Places.{forward-scores, backward-scores, half-scores}
use Rattle.twists.proofs.eighth.Eighth.fill_scores.Goals as goal

pub returns-then-part-lt4 : goal.returns-then-part-lt4
returns-then-part-lt4 c =
    let a = c.args in
    let e = a.ends in
    forward-scores e.c0 e.s0 a.part _ c.if-part-lt4.true c.fill_octant.ensures

pub returns-then-part-eq4 : goal.returns-then-part-eq4
returns-then-part-eq4 c =
    let a = c.args in
    let e = a.ends in
    half-scores e.c0 e.s0 a.part _ c.if-part-eq4.true (omega arith)
    (c.score.ensures ∙ ap (score_of e.c0 e.s0) c.forward.ensures) c.fill_octant-2.ensures

pub returns-else-part-eq4 : goal.returns-else-part-eq4
returns-else-part-eq4 c =
    let a = c.args in
    let e = a.ends in
    backward-scores e.c0 e.s0 a.part _ (omega arith) c.fill_octant-2.ensures
