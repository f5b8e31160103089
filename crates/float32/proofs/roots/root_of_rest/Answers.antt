-- -0 and the infinity are their own roots, and no other value here has one. Assumes nothing.
use Rattle.std.proofs.Common.{rules, sym, ◌∙◌}
use Rattle.std.specs.Float.Ieee.{of_bits, neg}
use Rattle.float32.specs.Root.{root_of}
use Rattle.float32.proofs.NanPatterns.{nan-pattern}
use Rattle.float32.proofs.Rootless.{no-root}
use Rattle.float32.proofs.roots.root_of_rest.Goals as goal

pub returns-in-2147483648 : goal.returns-in-2147483648
unfolding root_of of_bits neg
returns-in-2147483648 c = rw c.in-2147483648.is

pub returns-in-2139095040 : goal.returns-in-2139095040
unfolding root_of of_bits
returns-in-2139095040 c = rw c.in-2139095040.is

pub returns-in_default : goal.returns-in_default
returns-in_default c =
    nan-pattern ∙ sym (no-root c.args.b c.requires (search rules) (search rules) (search rules))
