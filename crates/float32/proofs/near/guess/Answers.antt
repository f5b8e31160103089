-- The guess makes no pattern of a NaN. Assumes nothing.
use Rattle.std.proofs.Common.{arith}
use Rattle.std.proofs.lemmas.Float.{not_nan_f64_bits}
use Rattle.float32.proofs.near.guess.Goals as goal

pub float_from_bits-y : goal.float_from_bits-y
float_from_bits-y c = not_nan_f64_bits _ (omega arith)

pub float_from_bits-s : goal.float_from_bits-s
float_from_bits-s c = not_nan_f64_bits _ (omega arith)
