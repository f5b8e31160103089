-- Before each turn the first j scores stand.
use Rattle.std.proofs.Common.{◌≡◌, ℕ, ◌<◌, length, get_or}
use Rattle.std.specs.Float.{nan}
use Rattle.twists.proofs.scores.fill.Given as goal

abbrev pub invariant-loop-j : goal.invariant-loop-j
invariant-loop-j g l = record {
  sized : length l.out ≡ 512;
  written : (k : ℕ) → k < l.j → goal.F-post g l.score k (get_or l.out k nan);
}
