-- Each turn of the loop writes one triangle after the last. Assumes nothing.
use Rattle.std.proofs.Common.{◌≡◌}
use Rattle.laws.specs.Overwrite.{overwrite}
use Rattle.laws.specs.Blocks.{blocks}
use Rattle.surface.proofs.Flatten.{numbers}
use Rattle.surface.proofs.Pieces.{cap_at}
use Rattle.surface.proofs.caps.write_cap.Given as goal

abbrev pub invariant-loop-i : goal.invariant-loop-i
invariant-loop-i l = l.out ≡ overwrite 0 (blocks l.i (numbers (cap_at l.end l.n l.pole l.rim))) l.initial.out
