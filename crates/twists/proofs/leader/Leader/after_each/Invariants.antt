-- Before each turn `leader` is the leader of the scores passed.
use Rattle.std.proofs.Common.{◌≡◌}
use Rattle.twists.specs.Leaders.{led_by}
use Rattle.twists.proofs.leader.Leader.after_each.Given as goal

abbrev pub invariant-loop-i : goal.invariant-loop-i
invariant-loop-i l = l.leader ≡ led_by l.scores l.base l.i l.initial.leader
