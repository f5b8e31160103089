-- All NaNs are one value, whose pattern is the one written. Assumes nothing.
use Rattle.std.proofs.Common.{sym, ap, ◌∙◌}
use Rattle.std.specs.Float.{binary32}
use Rattle.std.specs.Float.Ieee.{to_bits}
use Rattle.float32.proofs.NanPatterns.{is-nan}
use Rattle.float32.proofs.words.to_word.Goals as goal

pub returns-then-is_nan : goal.returns-then-is_nan
unfolding to_bits
returns-then-is_nan c =
    sym (ap (to_bits binary32) (is-nan c.args.x (sym c.is_nan.ensures.value ∙ c.if-is_nan.true)))
