use Rattle.sweep.specs.Set.{held}
use Rattle.sweep.specs.File.{file_words}
use Rattle.sweep.proofs.Filled.{word-told, end-told, none_filled, one-filled, no-word-left, no-room-left}
use Rattle.sweep.proofs.output.fill_file.Goals as goal

pub loop-i-init : goal.loop-i-init
loop-i-init c = none_filled _ _

pub returns-in-Err : goal.returns-in-Err
returns-in-Err c =
    let s = held c.args.set.now in
    let done =
    no-word-left (file_words s) c.args.words.now c.loop-i.invariant (end-told s c.loop-i.i c.in-Err.ensures) in
    record { count = done.0; written = done.1 }

pub loop-i-preserved : goal.loop-i-preserved
loop-i-preserved c =
    let s = held c.args.set.now in
    let word = word-told s c.loop-i.i c.in-Ok.ensures in
    one-filled (file_words s) c.args.words.now c.loop-i.invariant c.loop-i-test.true word.0 word.1

pub returns : goal.returns
returns c =
    let done = no-room-left _ _ c.loop-i.invariant c.loop-i-test.false in
    record { count = done.0; written = done.1 }
