-- The scores of 512 places, by the steps of an octant: forward, or backward. Assumes nothing.
use Rattle.std.proofs.Common.{◌≡◌, sym, ap, ◌∙◌, ⊎_elim, List, ℕ, ◌+◌, ◌-◌, ◌*◌, ◌≤◌, ◌<◌, eq-zero-or-pos, arith, le-leb, Float, length, get_or, set, get_or-set_same, get_or-set_other}
use Rattle.std.proofs.lemmas.Bool.{lt-leb}
use Rattle.std.specs.Float.{nan}
use Rattle.std.specs.Float.Ieee.{neg}
use Rattle.twists.specs.Twists.{forward, backwards, score_of, twist_at}
use Rattle.twists.specs.Scores.{forward_score, place_score}
use Rattle.twists.specs.Eighth.{Tabulates}
use Rattle.twists.proofs.Octants.{score-backwards}

place-forward : (i : ℕ) → i ≤ 2048 → forward i ≡ twist_at i
unfolding twist_at
place-forward i h = rw (le-leb i 2048 h)

place-backwards : (i steps : ℕ) → 1 ≤ steps → i ≡ 2048 + steps → backwards steps ≡ twist_at i
unfolding twist_at
place-backwards i steps h is =
    let e : steps ≡ i - 2048 = omega arith in
    rw (lt-leb i 2048 (omega arith)) (ap backwards e)

-- the first four parts
pub forward-scores : (c0 s0 : Float) (part : ℕ) (out : List Float) → part < 4
    → Tabulates 512 (forward_score c0 s0 part) out
    → Tabulates 512 (place_score c0 s0 (512 * part)) out
forward-scores c0 s0 part out h steps j l =
    steps j l ∙ ap (score_of c0 s0) (place-forward (512 * part + j) (omega arith))

-- the others: every place past that of forward step 2048
backward-score : (c0 s0 : Float) (part j : ℕ) → 4 ≤ part → 1 ≤ 512 * (part - 4) + j
    → forward_score c0 (neg s0) (part - 4) j ≡ place_score c0 s0 (512 * part) j
backward-score c0 s0 part j h some =
    let steps = 512 * (part - 4) + j in
    sym (score-backwards c0 s0 steps)
    ∙ ap (score_of c0 s0) (place-backwards (512 * part + j) steps some (omega arith))

pub backward-scores : (c0 s0 : Float) (part : ℕ) (out : List Float) → 5 ≤ part
    → Tabulates 512 (forward_score c0 (neg s0) (part - 4)) out
    → Tabulates 512 (place_score c0 s0 (512 * part)) out
backward-scores c0 s0 part out h steps j l = steps j l ∙ backward-score c0 s0 part j (omega arith) (omega arith)

-- part 4, where forward step 2048 stands in the place of backward step 0
pub half-scores : (c0 s0 : Float) (part : ℕ) (out : List Float) {half : Float} → part ≡ 4 → length out ≡ 512
    → half ≡ score_of c0 s0 (forward 2048)
    → Tabulates 512 (forward_score c0 (neg s0) (part - 4)) out
    → Tabulates 512 (place_score c0 s0 (512 * part)) (set out 0 half)
half-scores c0 s0 part out {half} is sized score steps j l = ⊎_elim first later (eq-zero-or-pos j)
  where
    first : j ≡ 0 → get_or (set out 0 half) j nan ≡ place_score c0 s0 (512 * part) j
    first none =
        let e : 2048 ≡ 512 * part + j = omega arith in
        ap (λ (k : ℕ). get_or (set out 0 half) k nan) none
        ∙ get_or-set_same out 0 half nan (omega arith)
        ∙ score
        ∙ ap (score_of c0 s0) (place-forward 2048 (omega arith) ∙ ap twist_at e)

    later : 0 < j → get_or (set out 0 half) j nan ≡ place_score c0 s0 (512 * part) j
    later some =
        get_or-set_other out 0 j half nan (λ e. omega arith)
        ∙ steps j l
        ∙ backward-score c0 s0 part j (omega arith) (omega arith)
