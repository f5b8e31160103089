-- Where the curve has no vertex k, the definition picks NaNs. Assumes nothing.
use Rattle.std.proofs.Common.{le-ltb}
use Rattle.std.specs.Float.Ieee.{of_bits}
use Rattle.vec3.specs.Points.{thrice}
use Rattle.curve.specs.Segments.{vertex_of}
use Rattle.curve.proofs.segments.vertex.Goals as goal

pub returns-else-k-curve : goal.returns-else-k-curve
unfolding vertex_of thrice of_bits
returns-else-k-curve c = rw (le-ltb _ _ c.if-k-curve.false) c.thrice.ensures
