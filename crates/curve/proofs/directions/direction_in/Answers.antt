-- Where the table has no direction k, the default is the definition's NaNs. Assumes nothing.
use Rattle.std.proofs.Common.{rules}
use Rattle.std.specs.Float.Ieee.{of_bits}
use Rattle.vec3.specs.Points.{thrice}
use Rattle.curve.proofs.directions.direction_in.Goals as goal

pub returns : goal.returns
unfolding thrice of_bits
returns c = search rules
