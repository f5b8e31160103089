-- Each turn stores the float of one more word. Assumes nothing.
use Rattle.std.proofs.Common.{◌≡◌, length, get_or, arith}
use Rattle.std.specs.Float.{binary32}
use Rattle.std.specs.Float.Ieee.{of_bits}
use Rattle.laws.proofs.Blocks.{store_more, all_stored}
use Rattle.records.proofs.first.fill_floats.Goals as goal

pub loop-i-preserved : goal.loop-i-preserved
loop-i-preserved c =
    let l = c.loop-i in
    let a = c.args in
    store_more l.i (λ k. of_bits binary32 (get_or a.words.now k 0)) a.out.now l.invariant c.from_word.ensures

pub returns : goal.returns
returns c =
    let l = c.loop-i in
    let a = c.args in
    let words = a.words.now in
    let end : l.i ≡ length words = omega arith in
    all_stored (of_bits binary32) words 0 a.out.now l.invariant end
