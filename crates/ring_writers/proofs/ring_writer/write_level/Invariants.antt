-- Each turn of the loop writes one vertex after those before it.
use Rattle.std.proofs.Common.{◌≡◌}
use Rattle.laws.specs.Overwrite.{overwrite}
use Rattle.laws.specs.Blocks.{blocks}
use Rattle.rings.specs.Vertices.{vertex_on, level_at}
use Rattle.ring_writers.proofs.ring_writer.write_level.Given as goal

abbrev pub invariant-loop-i : goal.invariant-loop-i
invariant-loop-i l =
    l.out ≡ overwrite 0 (blocks l.i (vertex_on (level_at l.radius l.y) l.turns)) l.initial.out
