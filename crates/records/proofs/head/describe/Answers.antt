-- `of_kind` gets the words of the head, two of them as floats. Assumes nothing.
use Rattle.std.proofs.Common.{◌∙◌, not, eqb, get_or}
use Rattle.descriptions.specs.KindNumbers.{described_of}
use Rattle.records.proofs.head.describe.Goals as goal

pub returns : goal.returns
returns c =
    let words = c.args.head.now in
    let size = c.from_word.ensures in
    let length = c.from_word-2.ensures in
    c.of_kind.ensures
    ∙ (λ j. described_of (get_or words 0 0) (get_or words 1 0) (get_or words 2 0) (not (eqb (get_or words 3 0) 0)) (size j) (length j))
