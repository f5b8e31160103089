-- Each turn of the loop writes one triangle after the last. Assumes nothing.
use Rattle.std.proofs.Common.{◌≡◌, arith}
use Rattle.surface.proofs.Flatten.{turn, blocks-written}
use Rattle.surface.proofs.Pieces.{cap_at, cap-written, length-cap_at}
use Rattle.surface.proofs.caps.write_cap.Goals as goal

pub loop-i-preserved : goal.loop-i-preserved
loop-i-preserved c = let l = c.loop-i in
    let a = c.args in
    turn 3 l.i (cap_at a.end a.n a.pole a.rim) a.out.now (length-cap_at a.end a.n a.pole a.rim) l.invariant (omega arith) c.put.ensures
    (cap-written a.end a.n a.pole a.rim l.i c.cap_triangle-triangle.ensures c.after-next.ensures)

pub returns : goal.returns
returns c = let a = c.args in
    let end : c.loop-i.i ≡ a.n = omega arith in
    blocks-written (cap_at a.end a.n a.pole a.rim) a.out.now c.loop-i.invariant end
