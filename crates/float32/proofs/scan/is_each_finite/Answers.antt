-- With each value passed, the fold's answer is that of one value more.
use Rattle.std.proofs.Common.{ap, ◌∙◌, rules, refl}
use Rattle.std.specs.Float.Ieee.Scale.{finite}
use Rattle.float32.specs.Scan.{all_finite}
use Rattle.float32.proofs.Tests.{all-folded}
use Rattle.float32.proofs.scan.is_each_finite.Goals as goal

pub returns : goal.returns
unfolding all_finite
returns c =
    all-folded _ _ finite (λ a x b f' call. (search rules, refl)) _ _ c.fold.ensures.ran ∙ ap all_finite c.iter.ensures.rest
