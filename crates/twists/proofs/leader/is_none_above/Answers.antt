-- With each score passed, the fold's answer is that of one score more.
use Rattle.std.proofs.Common.{ap, ◌∙◌, Bool, not, Float, rules}
use Rattle.std.specs.Float.Ieee.{lt}
use Rattle.float32.proofs.Tests.{all_pass, all-folded}
use Rattle.twists.proofs.leader.is_none_above.Goals as goal

pub returns : goal.returns
returns c =
    let test : Float → Bool = λ score. not (lt c.args.most score) in
    all-folded _ _ test (λ a x b f' call. (search rules, search rules)) _ _ c.fold.ensures.ran ∙ ap (all_pass test) c.iter.ensures.rest
