-- The argument is the value of its own pattern, and each arm gives that value's root. Assumes
-- nothing.
use Rattle.std.proofs.Common.{◌≡◌, sym, ap, ◌∙◌, T, Float, rules}
use Rattle.std.specs.Float.{nan, binary32}
use Rattle.std.specs.Float.Ieee.{of_bits, to_bits, fits}
use Rattle.std.specs.Float.Ieee.Bits.{of_bits-to_bits}
use Rattle.float32.specs.Root.{root_of}
use Rattle.float32.proofs.NanPatterns.{is-nan}
use Rattle.float32.proofs.roots.root.Goals as goal

own-nan : (x : Float) → x ≡ nan → x ≡ root_of x
unfolding root_of
own-nan x e = rw e

pub returns-then-is_nan : goal.returns-then-is_nan
returns-then-is_nan c = own-nan c.args.x (is-nan c.args.x (sym c.is_nan.ensures.value ∙ c.if-is_nan.true))

own : (x : Float) → T (fits binary32 x) → root_of (of_bits binary32 (to_bits binary32 x)) ≡ root_of x
own x h = ap root_of (of_bits-to_bits binary32 x h)

pub returns-in-8388608-to-2139095039 : goal.returns-in-8388608-to-2139095039
returns-in-8388608-to-2139095039 c = c.root_of_normal.ensures ∙ own c.args.x (search rules)

pub returns-in-0-to-8388607 : goal.returns-in-0-to-8388607
returns-in-0-to-8388607 c = c.root_of_small.ensures ∙ own c.args.x (search rules)

pub returns-in_default : goal.returns-in_default
returns-in_default c = c.root_of_rest.ensures ∙ own c.args.x (search rules)
