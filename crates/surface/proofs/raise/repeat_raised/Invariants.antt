-- Each turn of the loop writes copies of the first copies after them all. Assumes nothing.
use Rattle.std.proofs.Common.{◌≡◌, ◌-◌, ◌≤◌, ◌<◌, take}
use Rattle.laws.specs.Overwrite.{overwrite}
use Rattle.laws.specs.Blocks.{blocks}
use Rattle.surface.specs.Raise.{copy_of}
use Rattle.surface.proofs.raise.repeat_raised.Given as goal

abbrev pub invariant-loop-done : goal.invariant-loop-done
invariant-loop-done l =
    (l.out ≡ overwrite 0 (blocks l.done (copy_of l.rise (take l.size l.initial.out))) l.initial.out)
    × (0 < l.done)
    × (l.done ≤ l.times)

abbrev pub decreases-loop-done : goal.decreases-loop-done
decreases-loop-done l = l.times - l.done
