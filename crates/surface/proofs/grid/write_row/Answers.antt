-- Each turn of the loop writes one quad after the last. Assumes nothing.
use Rattle.std.proofs.Common.{◌≡◌, arith}
use Rattle.surface.proofs.Flatten.{turn, blocks-written}
use Rattle.surface.proofs.Pieces.{quad_at, quad-written, length-quad_at}
use Rattle.surface.proofs.grid.write_row.Goals as goal

pub loop-i-preserved : goal.loop-i-preserved
loop-i-preserved c = let l = c.loop-i in
    let a = c.args in
    let s = a.s in
    turn 6 l.i (quad_at s.split s.round s.columns a.low a.high) a.out.now
    (length-quad_at s.split s.round s.columns a.low a.high) l.invariant (omega arith) c.put.ensures
    (quad-written s.split s.round s.columns a.low a.high l.i c.quad-triangles.ensures c.after-next.ensures)

pub returns : goal.returns
returns c = let a = c.args in
    let s = a.s in
    let end : c.loop-i.i ≡ s.columns = omega arith in
    blocks-written (quad_at s.split s.round s.columns a.low a.high) a.out.now c.loop-i.invariant end
