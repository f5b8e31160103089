-- A block without a score above the leader's changes nothing, and any other is tried score by
-- score: so after each turn `leader` is the leader of the scores passed.
use Rattle.std.proofs.Common.{◌≡◌, sym, ap, ◌∙◌, List, [], ℕ, ◌+◌, ◌*◌, ◌/◌, ◌<◌, length, get_or, Float, arith}
use Rattle.std.specs.Float.{nan}
use Rattle.std.specs.Simd.{first_chunks}
use Rattle.twists.specs.Leaders.{led_by}
use Rattle.twists.specs.declared.leader.Leader.{Leader}
use Rattle.laws.proofs.Places.{get_or-chunk}
use Rattle.twists.proofs.Leaders.{leads-none, leads-block}
use Rattle.twists.proofs.leader.Leader.after.Goals as goal
use Rattle.twists.proofs.leader.Leader.after.Goals.{then-not-is_none_above, else-not-is_none_above}

-- A turn that leaves the leader of its block leaves that of all scores passed.
turned : (scores block : List Float) (base i count : ℕ) (start now next : Leader) → i < count
    → block ≡ get_or (first_chunks 32 count scores) i [] → length block ≡ 32
    → now ≡ led_by scores base (32 * i) start
    → next ≡ led_by block (base + 32 * i) (length block) now
    → next ≡ led_by scores base (32 * (i + 1)) start
turned scores block base i count start now next within cut sized before is =
    let score : ℕ → Float = λ k. get_or scores k nan in
    let more : 32 * i + 32 ≡ 32 * (i + 1) = omega arith in
    leads-block score (λ k. get_or block k nan) base (32 * i) 32 start
    (λ k h. ap (λ (b : List Float). get_or b k nan) cut ∙ get_or-chunk 32 count scores i k nan within h) before
    (is ∙ ap (λ (n : ℕ). led_by block (base + 32 * i) n now) sized)
    ∙ ap (λ (n : ℕ). led_by scores base n start) more

pub loop-i-preserved : goal.loop-i-preserved
loop-i-preserved c =
    let l = c.loop-i in
    let a = c.args in
    let chunks = c.as_chunks in
    let block = get_or chunks.result.0.now l.i [] in
    turned a.scores.now block a.base l.i (length a.scores.now / 32) a.self l.leader _ (omega arith)
    (ap (λ (cs : List (List Float)). get_or cs l.i []) chunks.ensures.front) (omega arith) l.invariant
    (elim c.if-not-is_none_above.branch [
      | then-not-is_none_above w ↦ w.leader-is ∙ w.after_each-leader.ensures
      | else-not-is_none_above w ↦
          let all = sym c.is_none_above.ensures ∙ w.if-not-is_none_above.false in
          w.leader-is ∙ sym (leads-none (λ k. get_or block k nan) (a.base + 32 * l.i) (length block) l.leader all)
    ])

pub returns : goal.returns
returns c =
    let l = c.loop-i in
    let a = c.args in
    let end : 32 * l.i ≡ length a.scores.now = omega arith in
    rw (← end) l.invariant
