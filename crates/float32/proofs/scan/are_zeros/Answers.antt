-- With each sum passed, the fold's answer is that of one sum more.
use Rattle.std.proofs.Common.{ap, ◌∙◌, Float, rules, refl}
use Rattle.std.specs.Float.{binary32}
use Rattle.std.specs.Float.Ieee.{eq, of_bits}
use Rattle.float32.specs.Lanes.{all_zeros}
use Rattle.float32.proofs.Tests.{all-folded}
use Rattle.float32.proofs.scan.are_zeros.Goals as goal

pub returns : goal.returns
unfolding all_zeros
returns c =
    all-folded _ _ (λ (sum : Float). eq sum (of_bits binary32 0)) (λ a x b f' call. (search rules, refl)) _ _ c.fold.ensures.ran
    ∙ ap all_zeros c.iter.ensures.rest
