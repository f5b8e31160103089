-- Each turn of the loop writes one quad after the last. Assumes nothing.
use Rattle.std.proofs.Common.{◌≡◌}
use Rattle.laws.specs.Overwrite.{overwrite}
use Rattle.laws.specs.Blocks.{blocks}
use Rattle.surface.proofs.Flatten.{numbers}
use Rattle.surface.proofs.Pieces.{quad_at}
use Rattle.surface.proofs.grid.write_row.Given as goal

abbrev pub invariant-loop-i : goal.invariant-loop-i
invariant-loop-i l =
    l.out ≡ overwrite 0 (blocks l.i (numbers (quad_at l.s.split l.s.round l.s.columns l.low l.high))) l.initial.out
