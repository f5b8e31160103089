-- A turn tries one more score: where it is above the leader's, it leads.
use Rattle.std.proofs.Common.{sym, ◌∙◌, ◌+◌, ℕ, get_or, Float}
use Rattle.std.specs.Float.{nan}
use Rattle.twists.proofs.Leaders.{led-changed, led-kept, leads-next}
use Rattle.twists.proofs.leader.Leader.after_each.Goals as goal
use Rattle.twists.proofs.leader.Leader.after_each.Goals.{then-leader-score, else-leader-score}

pub loop-i-preserved : goal.loop-i-preserved
loop-i-preserved c =
    let l = c.loop-i in
    let a = c.args in
    let score : ℕ → Float = λ i. get_or a.scores.now i nan in
    let place = a.base + l.i in
    leads-next score a.base l.i a.self l.invariant (elim c.if-leader-score.branch [
      | then-leader-score w ↦ w.leader-is ∙ sym (led-changed place (score l.i) l.leader w.if-leader-score.true)
      | else-leader-score w ↦ w.leader-is ∙ sym (led-kept place (score l.i) l.leader w.if-leader-score.false)
    ])
