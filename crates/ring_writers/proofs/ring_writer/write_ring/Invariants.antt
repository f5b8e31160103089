-- Each loop writes vertices after those before them.
use Rattle.std.proofs.Common.{◌≡◌, ◌*◌}
use Rattle.laws.specs.Overwrite.{overwrite}
use Rattle.laws.specs.Blocks.{blocks}
use Rattle.rings.specs.Vertices.{vertex_on}
use Rattle.rings.specs.Rings.{ring_vertex}
use Rattle.ring_writers.proofs.ring_writer.write_ring.Given as goal

abbrev pub invariant-loop-block : goal.invariant-loop-block
invariant-loop-block l =
    l.out ≡ overwrite 0 (blocks (4 * l.block) (vertex_on (ring_vertex l.ring) l.turns)) l.initial.out

abbrev pub invariant-loop-i : goal.invariant-loop-i
invariant-loop-i l = l.out ≡ overwrite 0 (blocks l.i (vertex_on (ring_vertex l.ring) l.turns)) l.fn.out
