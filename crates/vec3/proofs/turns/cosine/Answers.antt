-- `vec3::turns::cosine` meets its contract: the code is the definition, its numbers by their bit
-- patterns. Assumes nothing.
use Rattle.std.proofs.Common.{refl}
use Rattle.std.specs.Float.Ieee.{of_int, of_bits}
use Rattle.vec3.specs.Turns.{cosine_of, bracket, fraction, minus_fraction, whole}
use Rattle.vec3.proofs.turns.cosine.Goals as goal

pub returns : goal.returns
unfolding cosine_of bracket fraction minus_fraction whole of_int of_bits
returns c = refl
