-- Each turn of the loop stores one word behind the last.
use Rattle.std.proofs.Common.{◌≡◌, ◌∙◌, ap, ℕ, ◌+◌, ◌*◌, ◌/◌, ◌<◌, List, [], length, get_or, add-zero, arith}
use Rattle.laws.proofs.Blocks.{store_more}
use Rattle.laws.proofs.Places.{get_or-chunk}
use Rattle.little_endian.proofs.read_words.Invariants.{word}
use Rattle.little_endian.proofs.read_words.Goals as goal

pub loop-i-preserved : goal.loop-i-preserved
loop-i-preserved c =
    let l = c.loop-i in
    let bytes = c.args.bytes.now in
    let chunks = c.as_chunks.result.0.now in
    let byte : (b : ℕ) → b < 4 → get_or (get_or chunks l.i []) b 0 ≡ get_or bytes (4 * l.i + b) 0 =
    λ b h. ap (λ (cs : List (List ℕ)). get_or (get_or cs l.i []) b 0) c.as_chunks.ensures.front ∙ get_or-chunk 4 (length bytes / 4) bytes l.i b 0 (omega arith) h in
    let lowest = simp add-zero at (byte 0 (omega arith)) in
    store_more l.i (word bytes) c.args.out.now l.invariant
    (omega (arith, lowest, byte 1 (omega arith), byte 2 (omega arith), byte 3 (omega arith)))
