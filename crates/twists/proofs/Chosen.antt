-- The twist that the search chooses is one of the best. The places from 0 to 4095 are the twists,
-- each once, and the leader after all places has a score that no other is above. Assumes nothing.
use Rattle.std.proofs.Common.{◌≡◌, refl, sym, ap, ◌∙◌, Bool, true, false, ◌&&◌, cond, ℕ, ◌+◌, ◌-◌, ◌<◌, not-suc-le-zero, arith, leb-true, leb-false, le-leb, leb, T, Float}
use Rattle.std.proofs.lemmas.Bool.{lt-leb, and_parts}
use Rattle.std.specs.Float.Ieee.{le}
use Rattle.std.specs.Float.Ieee.Scale.{finite}
use Rattle.laws.specs.Every.{every}
use Rattle.laws.proofs.Every.{every-each, each-every}
use Rattle.twists.specs.Twists.{forward, backwards, is_twist, score_of, Best, twist_at, scores_finite}
use Rattle.twists.specs.Chosen.{leader_at, chosen_twist}
use Rattle.twists.specs.declared.twist.Twist.{Twist}
use Rattle.twists.proofs.Leaders.{Leading, leading}

-- ---- places and twists
twist-within : (i : ℕ) → i < 4096 → is_twist (twist_at i) ≡ true
unfolding twist_at
twist-within i h = go (leb i 2048) refl
  where
    go : (t : Bool) → leb i 2048 ≡ t → is_twist (cond t (forward i) (backwards (i - 2048))) ≡ true
    go true l = l
    go false l =
        let n = leb-false i 2048 l in
        rw (le-leb 1 (i - 2048) (omega arith), le-leb (i - 2048) 2047 (omega arith))

-- the place of a twist
abbrev place_of : Twist → ℕ
place_of k = cond k.backward (2048 + k.steps) k.steps

-- what `is_twist` says of a twist's place
record Placed (k : Twist) : Type 0 where
  within : place_of k < 4096
  twist : twist_at (place_of k) ≡ k

placed : (k : Twist) → is_twist k ≡ true → Placed k
unfolding twist_at
placed k = go k.steps k.backward
  where
    go : (n : ℕ) (b : Bool) → is_twist (record { steps = n; backward = b }) ≡ true
        → Placed (record { steps = n; backward = b })
    go n false h =
        let l = leb-true n 2048 h in
        record { within = omega arith; twist = rw (le-leb n 2048 l) }
    go n true h =
        let both = and_parts (leb 1 n) (leb n 2047) h in
        let l = leb-true 1 n both.0 in
        let m = leb-true n 2047 both.1 in
        let e : 2048 + n - 2048 ≡ n = omega arith in
        record { within = omega arith; twist = rw (lt-leb (2048 + n) 2048 (omega arith), e) }

-- ---- the scores
abbrev score_at : Float → Float → ℕ → Float
score_at c0 s0 i = score_of c0 s0 (twist_at i)

finite-at : (c0 s0 : Float) → scores_finite c0 s0 ≡ true → (i : ℕ) → i < 4096 → finite (score_at c0 s0 i) ≡ true
unfolding scores_finite
finite-at c0 s0 h =
    let f : ℕ → Bool = λ i. finite (score_at c0 s0 i) in
    every-each 4096 f (and_parts (finite c0 && finite s0) (every 4096 f) h).1

-- Where the scores are finite, that of each twist is.
pub scores-each : (c0 s0 : Float) → scores_finite c0 s0 ≡ true → (k : Twist) → is_twist k ≡ true
    → finite (score_of c0 s0 k) ≡ true
scores-each c0 s0 h k is =
    let p = placed k is in
    ap (λ (t : Twist). finite (score_of c0 s0 t)) (sym p.twist) ∙ finite-at c0 s0 h (place_of k) p.within

-- the other way round
pub each-scores : (c0 s0 : Float) → finite c0 ≡ true → finite s0 ≡ true
    → ((k : Twist) → is_twist k ≡ true → finite (score_of c0 s0 k) ≡ true) → scores_finite c0 s0 ≡ true
unfolding scores_finite
each-scores c0 s0 c s each =
    let all = each-every 4096 (λ i. finite (score_at c0 s0 i)) (λ i h. each (twist_at i) (twist-within i h)) in
    λ i. (c i && s i) && all i

-- ---- the chosen twist
is_true : (b : Bool) → T b → b ≡ true
is_true true h = refl
is_true false h = absurd h

leads-first : (c0 s0 : Float) → Leading (score_at c0 s0) 4096 0 (leader_at c0 s0 0)
unfolding twist_at
leads-first c0 s0 = record { within = omega arith; own = refl; greatest = λ k h. absurd (not-suc-le-zero h) }

leads-last : (c0 s0 : Float) → scores_finite c0 s0 ≡ true → Leading (score_at c0 s0) 4096 4096 (leader_at c0 s0 4096)
leads-last c0 s0 h =
    leading (score_at c0 s0) 4096 (finite-at c0 s0 h) 4096 (leader_at c0 s0 0) (omega arith) (leads-first c0 s0)

pub chosen-best : (c0 s0 : Float) → scores_finite c0 s0 ≡ true → Best c0 s0 (chosen_twist c0 s0)
unfolding chosen_twist
chosen-best c0 s0 h =
    let leader = leader_at c0 s0 4096 in
    let last = leads-last c0 s0 h in
    let score = score_of c0 s0 in
    record {
      within = twist-within leader.place last.within;
      greatest = λ k is. let p = placed k is in
          (λ i. le (score (sym p.twist i)) (sym last.own i)) ∙ is_true _ (last.greatest (place_of k) p.within);
    }
