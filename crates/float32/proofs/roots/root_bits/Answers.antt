-- `float32::roots::root_bits` meets its contract: with 24 - o places more, what is left beside the
-- square is an even power of two. Assumes nothing.
use Rattle.std.proofs.Common.{arith}
use Rattle.float32.proofs.RootLaw.{root-bits}
use Rattle.float32.proofs.roots.root_bits.Goals as goal

pub returns : goal.returns
returns c =
    let a = c.args in
    root-bits a.m a.o a.k c.near_root.result (omega arith) (omega arith) (omega arith) (omega arith) c.near_root.ensures
