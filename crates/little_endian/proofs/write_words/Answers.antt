-- Each turn of the loop puts the bytes of one word behind those of the last.
use Rattle.std.proofs.Common.{◌*◌, ◌+◌, ◌-◌, refl, ap, ◌∙◌, length, arith}
use Rattle.laws.proofs.Lent.{lent-part}
use Rattle.laws.proofs.Blocks.{one_more}
use Rattle.little_endian.proofs.write_words.Invariants.{here}
use Rattle.little_endian.proofs.write_words.Goals as goal

pub loop-i-preserved : goal.loop-i-preserved
loop-i-preserved c =
    let l = c.loop-i in
    let a = c.args in
    let put = c.copy_from_slice.new.self in
    let is = c.copy_from_slice.ensures.after ∙ c.to_le_bytes.ensures in
    one_more 0 l.i 4 (here a.words.now) a.out.now (λ k h. refl) l.invariant (omega arith)
    (lent-part (4 * l.i) (4 * l.i + 4 - 4 * l.i) put l.out (omega (arith, ap length is)) (omega arith)) is
