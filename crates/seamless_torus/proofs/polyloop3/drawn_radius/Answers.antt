-- The value of the flag picks the arm of the definition, and the constant's pattern is a NaN's.
-- Assumes nothing.
use Rattle.std.proofs.Common.{refl}
use Rattle.std.specs.Float.Ieee.{of_bits}
use Rattle.seamless_torus.proofs.polyloop3.drawn_radius.Goals as goal

pub returns-else-finite : goal.returns-else-finite
unfolding of_bits
returns-else-finite c = rw c.if-finite.false refl
