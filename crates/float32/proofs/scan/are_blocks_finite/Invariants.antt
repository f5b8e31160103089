-- Before each turn each lane's sum tells whether the floats that it has had are finite.
use Rattle.std.proofs.Common.{◌≡◌, ◌<◌, Bool, ℕ, List, [], Float, length, get_or}
use Rattle.std.specs.Float.{nan}
use Rattle.std.specs.Float.Ieee.Scale.{finite}
use Rattle.laws.specs.Every.{every}
use Rattle.float32.proofs.ZeroSums.{Tells}
use Rattle.float32.proofs.scan.are_blocks_finite.Given as goal

-- whether lane k's float of block j is finite
abbrev pub here : List (List Float) → ℕ → ℕ → Bool
here blocks k j = finite (get_or (get_or blocks j []) k nan)

abbrev pub invariant-loop-block : goal.invariant-loop-block
invariant-loop-block l = record {
  sized : length l.sums ≡ 16;
  tell : (k : ℕ) → k < 16 → Tells (every l.block-index (here l.blocks k)) (get_or l.sums k nan);
}
