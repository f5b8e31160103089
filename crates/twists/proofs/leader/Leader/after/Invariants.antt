-- Before each turn `leader` is the leader of the scores passed, block by block.
use Rattle.std.proofs.Common.{◌≡◌, ◌*◌}
use Rattle.twists.specs.Leaders.{led_by}
use Rattle.twists.proofs.leader.Leader.after.Given as goal

abbrev pub invariant-loop-i : goal.invariant-loop-i
invariant-loop-i l = l.leader ≡ led_by l.scores l.base (32 * l.i) l.initial.leader
