-- No turn where either test fails.
use Rattle.std.proofs.Common.{⊎_elim, lt-ltb, le-ltb}
use Rattle.std.proofs.lemmas.Bool.{lt-leb}
use Rattle.std.specs.Float.Ieee.{of_int, of_bits}
use Rattle.vec3.specs.Turns.{turn_of, whole}
use Rattle.vec3.proofs.turns.turn.Goals as goal

pub returns : goal.returns
unfolding turn_of whole of_int of_bits
returns c =
    let k = c.args.k in
    let n = c.args.n in
    ⊎_elim (λ h. rw (lt-ltb k n h.0, lt-leb n 16777216 h.1)) (λ h. rw (le-ltb k n h)) c.else-k-n.either
