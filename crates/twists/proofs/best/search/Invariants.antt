-- Before each turn the leader and the flag are those of the places that were tried, 512 for each
-- part.
use Rattle.std.proofs.Common.{◌≡◌, ◌*◌, length}
use Rattle.twists.specs.Chosen.{leader_at}
use Rattle.twists.proofs.Finites.{finite_at}
use Rattle.twists.proofs.best.search.Given as goal

abbrev pub invariant-loop-part : goal.invariant-loop-part
invariant-loop-part l = record {
  sized : length l.scores ≡ 512;
  led : l.leader ≡ leader_at l.ends.c0 l.ends.s0 (512 * l.part);
  told : l.finite ≡ finite_at l.ends.c0 l.ends.s0 (512 * l.part);
}
