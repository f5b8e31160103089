-- A turn of the loop tries 512 places more; after the last turn all are tried.
use Rattle.std.proofs.Common.{◌≡◌, sym, ap, ◌∙◌, Bool, ◌&&◌, List, ℕ, ◌+◌, ◌*◌, length, get_or, zero-add, Float, arith}
use Rattle.std.specs.Float.{nan}
use Rattle.twists.specs.Twists.{forward, score_of, twist_at, scores_finite}
use Rattle.twists.specs.Eighth.{Tabulates}
use Rattle.twists.specs.Scores.{place_score}
use Rattle.twists.specs.Leaders.{leads, led_by}
use Rattle.twists.specs.Chosen.{leader_at, chosen_twist, found_for}
use Rattle.twists.specs.declared.leader.Leader.{Leader}
use Rattle.twists.specs.declared.best.Found.{Found}
use Rattle.twists.proofs.Finites.{finite_at, finite-block}
use Rattle.twists.proofs.Leaders.{leads-block}
use Rattle.twists.proofs.best.search.Goals as goal

-- the leader after the 512 places from m on
led-more : (c0 s0 : Float) (m : ℕ) (scores : List Float) (now next : Leader) → length scores ≡ 512
    → Tabulates 512 (place_score c0 s0 m) scores
    → now ≡ leader_at c0 s0 m → next ≡ led_by scores m (length scores) now → next ≡ leader_at c0 s0 (m + 512)
led-more c0 s0 m scores now next sized holds before is =
    let score : ℕ → Float = λ i. get_or scores i nan in
    let first : Leader = record { place = 0; score = score_of c0 s0 (forward 0) } in
    leads-block (λ i. score_of c0 s0 (twist_at i)) score 0 m 512 first holds before
    (is ∙ (λ i. leads score (sym (zero-add m) i) (sized i) now))

-- what is found after the first `count` places
abbrev found_at : Float → Float → ℕ → Found
found_at c0 s0 count = record { twist = twist_at (leader_at c0 s0 count).place; finite = finite_at c0 s0 count }

pub loop-part-preserved : goal.loop-part-preserved
loop-part-preserved c =
    let l = c.loop-part in
    let v = l.invariant in
    let e = c.args.ends in
    let m = 512 * l.part in
    let scores = c.fill_scores.new.out in
    let sized : length scores ≡ 512 = omega arith in
    let more : m + 512 ≡ 512 * (l.part + 1) = omega arith in
    record {
      sized = sized;
      led = led-more e.c0 e.s0 m scores l.leader c.after-leader.result sized c.fill_scores.ensures v.led
          c.after-leader.ensures ∙ ap (leader_at e.c0 e.s0) more;
      told = finite-block e.c0 e.s0 m scores sized c.fill_scores.ensures v.told
          (ap (λ (b : Bool). l.finite && b) c.are_finite-finite.ensures)
          ∙ ap (finite_at e.c0 e.s0) more;
    }

pub returns : goal.returns
unfolding found_for chosen_twist scores_finite
returns c =
    let v = c.loop-part.invariant in
    let all : 512 * c.loop-part.part ≡ 4096 = omega arith in
    let e = c.args.ends in
    let twist = c.twist_at.ensures ∙ ap (λ (b : Leader). twist_at b.place) v.led in
    (λ i. record { twist = twist i; finite = v.told i }) ∙ ap (found_at e.c0 e.s0) all
