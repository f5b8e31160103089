-- `float32::from_word` meets its contract: the first test tells the patterns of a NaN. Assumes
-- nothing.
use Rattle.std.proofs.Common.{sym, ◌∙◌, arith}
use Rattle.std.specs.Float.{binary32}
use Rattle.std.proofs.lemmas.Float.{not_nan_f32_bits}
use Rattle.float32.proofs.NanPatterns.{nan-bits, nan-pattern}
use Rattle.float32.proofs.words.from_word.Goals as goal

pub returns-then-w-gt2139095040 : goal.returns-then-w-gt2139095040
returns-then-w-gt2139095040 c = nan-pattern ∙ sym (nan-bits binary32 c.args.w c.if-w-gt2139095040.true)

pub float_from_bits-result : goal.float_from_bits-result
float_from_bits-result c = not_nan_f32_bits _ (omega arith)
