-- Whether all scores are finite, tried a block at a time. Assumes nothing.
use Rattle.std.proofs.Common.{◌≡◌, sym, ap, ◌∙◌, Bool, ◌&&◌, List, ℕ, zero, suc, ◌+◌, add-zero, add-suc, Float, length, get_or}
use Rattle.std.proofs.Math.Bool.{and-true, and_assoc}
use Rattle.std.specs.Float.{nan}
use Rattle.std.specs.Float.Ieee.Scale.{finite}
use Rattle.laws.specs.Every.{every}
use Rattle.laws.proofs.Every.{every-cong}
use Rattle.float32.specs.Scan.{all_finite}
use Rattle.twists.specs.Twists.{score_of, twist_at}
use Rattle.twists.specs.Scores.{place_score}
use Rattle.twists.specs.Eighth.{Tabulates}

-- the first m tests, then the n after them
every-split : (m n : ℕ) (f : ℕ → Bool) → every m f && every n (λ k. f (m + k)) ≡ every (m + n) f
every-split m zero f = and-true (every m f) ∙ ap (λ (k : ℕ). every k f) (sym (add-zero m))
every-split m (suc n) f =
    sym (and_assoc (every m f) (every n (λ k. f (m + k))) (f (m + n)))
    ∙ ap (λ (b : Bool). b && f (m + n)) (every-split m n f)
    ∙ ap (λ (k : ℕ). every k f) (sym (add-suc m n))

-- whether c0, s0 and the scores of the first places are finite
abbrev pub finite_at : Float → Float → ℕ → Bool
finite_at c0 s0 count = (finite c0 && finite s0) && every count (λ i. finite (score_of c0 s0 (twist_at i)))

-- a turn of a loop that tries the scores of 512 places from m on
pub finite-block : (c0 s0 : Float) (m : ℕ) (scores : List Float) {now next : Bool} → length scores ≡ 512
    → Tabulates 512 (place_score c0 s0 m) scores
    → now ≡ finite_at c0 s0 m → next ≡ now && all_finite scores → next ≡ finite_at c0 s0 (m + 512)
unfolding all_finite
finite-block c0 s0 m scores {now} {next} sized holds before is =
    is
    ∙ (λ i. before i && all i)
    ∙ and_assoc (finite c0 && finite s0) (every m score) (every 512 (λ k. score (m + k)))
    ∙ ap (λ (b : Bool). (finite c0 && finite s0) && b) (every-split m 512 score)
  where
    score : ℕ → Bool
    score i = finite (score_of c0 s0 (twist_at i))

    all : every (length scores) (λ i. finite (get_or scores i nan)) ≡ every 512 (λ k. score (m + k))
    all =
        ap (λ (n : ℕ). every n (λ i. finite (get_or scores i nan))) sized
        ∙ every-cong 512 (λ i. finite (get_or scores i nan)) (λ k. score (m + k)) (λ k h. ap finite (holds k h))
