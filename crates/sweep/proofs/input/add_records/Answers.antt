-- What was read is one record. Assumes nothing.
use Rattle.std.proofs.Common.{◌*◌, sym, ap, ◌∙◌, take, length-take-le}
use Rattle.sweep.proofs.AfterRecords.{read_whole, read_some, none-read, one-read}
use Rattle.sweep.proofs.input.add_records.Goals as goal

pub loop-count-init : goal.loop-count-init
loop-count-init g c = none-read _ _

pub loop-count-preserved : goal.loop-count-preserved
loop-count-preserved g c =
    let end = c.in-Ok.end in
    let held = c.read_record.new.words in
    let alone = c.in-Ok.ensures.alone in
    let (bytes, taken, sized, read) = c.in-Ok.ensures.bytes in
    let long = length-take-le end held alone.1 in
    one-read (take end held) bytes c.loop-count.invariant (read_some end held alone.0 alone.1)
    (read_whole end held alone.1 alone.2) taken (sized ∙ ap (λ n. 4 * n) (sym long)) read c.add_record.ensures
