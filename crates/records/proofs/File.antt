-- The buffers that build leaves are those of the calls, so their file is the ledger's. Assumes
-- nothing.
use Rattle.std.proofs.Common.{sym, ap, ◌∙◌}
use Rattle.answers.specs.Answers.{Answer}
use Rattle.set_file.specs.File.{file_word_of}
use Rattle.ledger.specs.Calls.{Called}
use Rattle.ledger.proofs.File.{file-of-set}
use Rattle.records.specs.Records.{additions_in}
use Rattle.records.specs.Built.{built_by}
use Rattle.records.specs.File.{FileOfBuild}
use Rattle.records.proofs.Built.{all-added}

-- THE FILE OF A LIST OF RECORDS
pub file-of-build : FileOfBuild
file-of-build records answers s ok place =
    let list = additions_in records in
    ap (λ (answer : Answer (Unit {0})). file_word_of (built_by answer list answers s).left place) ok
    ∙ sym (ap (λ (r : Called). file_word_of r.left place) (all-added s list ok))
    ∙ file-of-set.clear s list ok place
