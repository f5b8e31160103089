-- Before each turn the lanes below k have their float added, and the others are as they were.
use Rattle.std.proofs.Common.{◌≡◌, ◌<◌, ◌≤◌, ℕ, length, get_or}
use Rattle.std.specs.Float.{nan}
use Rattle.float32.specs.Lanes.{sum_after}
use Rattle.float32.proofs.scan.add_block.Given as goal

abbrev pub invariant-loop-k : goal.invariant-loop-k
invariant-loop-k l = record {
  sized : length l.sums ≡ 16;
  added : (j : ℕ) → j < l.k → get_or l.sums j nan ≡ sum_after (get_or l.initial.sums j nan) (get_or l.block j nan);
  others : (j : ℕ) → l.k ≤ j → get_or l.sums j nan ≡ get_or l.initial.sums j nan;
}
