-- The length that is named, or none where there are fewer words. Assumes nothing.
use Rattle.std.proofs.Common.{◌∙◌}
use Rattle.records.proofs.Lengths.{there-if, none_there}
use Rattle.records.proofs.head.record_words.Goals as goal

pub returns-in_err-count : goal.returns-in_err-count
returns-in_err-count c = c.from_residual.ensures ∙ none_there _ c.in_err-count.ensures

pub returns : goal.returns
returns c = c.then_some.ensures ∙ there-if _ c.in_ok-count.ensures
