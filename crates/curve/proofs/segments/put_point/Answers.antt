-- Three stores are one write of the coordinates. Assumes nothing.
use Rattle.laws.proofs.Overwrite.{three-stores}
use Rattle.curve.proofs.segments.put_point.Goals as goal

pub returns : goal.returns
returns c = let a = c.args in three-stores a.at a.p.x a.p.y a.p.z a.out.now
