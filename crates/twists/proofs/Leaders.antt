-- How the leader changes with one more score and with a block of them, and that no score tried is
-- above its own: all by induction on how many were tried. Assumes nothing.
use Rattle.std.proofs.Common.{◌≡◌, refl, sym, ap, ◌∙◌, subst, Bool, true, false, not, cond, ⊎_elim, ℕ, zero, suc, ◌+◌, ◌≤◌, ◌<◌, zero-add, add-zero, add-suc, add_assoc, le_of_suc-le-suc, eq-or-lt_of_le, add-one, arith, Float}
use Rattle.std.proofs.lemmas.Bool.{not-true, and_parts}
use Rattle.std.proofs.lemmas.Float.{le_of_lt, le_of_not-lt, le_refl, le_trans, T_from_true, T_from_false}
use Rattle.std.specs.Float.{◌≤ᶠ◌}
use Rattle.std.specs.Float.Ieee.{lt}
use Rattle.std.specs.Float.Ieee.Scale.{finite}
use Rattle.laws.specs.Every.{every}
use Rattle.float32.proofs.Order.{finite-not-nan}
use Rattle.twists.specs.Leaders.{led_once, leads}
use Rattle.twists.specs.declared.leader.Leader.{Leader}

-- ---- one more score
pub led-changed : (place : ℕ) (score : Float) (b : Leader) → lt b.score score ≡ true
    → led_once place score b ≡ record { place = place; score = score }
unfolding led_once
led-changed place score b h = ap (λ (t : Bool). cond t (record { place = place; score = score }) b) h

pub led-kept : (place : ℕ) (score : Float) (b : Leader) → lt b.score score ≡ false → led_once place score b ≡ b
unfolding led_once
led-kept place score b h = ap (λ (t : Bool). cond t (record { place = place; score = score }) b) h

-- ---- several scores
-- The leader turns only on the scores that are tried.
pub leads-cong : (f g : ℕ → Float) (base n : ℕ) (b : Leader) → ((k : ℕ) → k < n → f k ≡ g k)
    → leads f base n b ≡ leads g base n b
leads-cong f g base zero b h = refl
leads-cong f g base (suc n) b h =
    λ i. led_once (base + n) (h n (omega arith) i) (leads-cong f g base n b (λ k l. h k (omega arith)) i)

-- the first m places, followed by the n after them
pub leads-more : (f : ℕ → Float) (base m n : ℕ) (b : Leader)
    → leads f base (m + n) b ≡ leads (λ k. f (m + k)) (base + m) n (leads f base m b)
leads-more f base m zero b = ap (λ (k : ℕ). leads f base k b) (add-zero m)
leads-more f base m (suc n) b =
    ap (λ (k : ℕ). leads f base k b) (add-suc m n)
    ∙ (λ i. led_once (sym (add_assoc base m n) i) (f (m + n)) (leads-more f base m n b i))

-- Scores of which none is above the leader's change nothing.
pub leads-none : (f : ℕ → Float) (base n : ℕ) (b : Leader) → every n (λ k. not (lt b.score (f k))) ≡ true
    → leads f base n b ≡ b
leads-none f base zero b h = refl
leads-none f base (suc n) b h =
    let both = and_parts (every n (λ k. not (lt b.score (f k)))) (not (lt b.score (f n))) h in
    ap (led_once (base + n) (f n)) (leads-none f base n b both.0)
    ∙ led-kept (base + n) (f n) b (not-true (lt b.score (f n)) both.1)

-- a turn of a loop that tries place i
pub leads-next : (f : ℕ → Float) (base i : ℕ) (b : Leader) {now next : Leader} → now ≡ leads f base i b
    → next ≡ led_once (base + i) (f i) now → next ≡ leads f base (i + 1) b
leads-next f base i b before is =
    is ∙ ap (led_once (base + i) (f i)) before ∙ ap (λ (k : ℕ). leads f base k b) (sym (add-one i))

-- a turn of a loop that tries n places from m on
pub leads-block : (f g : ℕ → Float) (base m n : ℕ) (b : Leader) {now next : Leader}
    → ((k : ℕ) → k < n → g k ≡ f (m + k))
    → now ≡ leads f base m b → next ≡ leads g (base + m) n now → next ≡ leads f base (m + n) b
leads-block f g base m n b {now} same before is =
    is
    ∙ leads-cong g (λ k. f (m + k)) (base + m) n now same
    ∙ ap (leads (λ k. f (m + k)) (base + m) n) before
    ∙ sym (leads-more f base m n b)

-- ---- a leader of the first n of `many` finite scores
pub record Leading (f : ℕ → Float) (many n : ℕ) (b : Leader) : Type 0 where
  pub within : b.place < many
  pub own : b.score ≡ f b.place
  pub greatest : (k : ℕ) → k < n → f k ≤ᶠ b.score

-- A score that is at least each before place n, and that of place n, is at least each up to it.
up-to-this : (f : ℕ → Float) (n : ℕ) (most : Float) → ((k : ℕ) → k < n → f k ≤ᶠ most) → f n ≤ᶠ most
    → (k : ℕ) → k < suc n → f k ≤ᶠ most
up-to-this f n most before this k h =
    ⊎_elim (λ same. subst (λ (j : ℕ). f j ≤ᶠ most) (sym same) this) (before k) (eq-or-lt_of_le (le_of_suc-le-suc h))

module _ (f : ℕ → Float) (many : ℕ) (number : (k : ℕ) → k < many → finite (f k) ≡ true) where
  leading-next : (n : ℕ) (b : Leader) → n < many → Leading f many n b
      → Leading f many (suc n) (led_once (0 + n) (f n) b)
  leading-next n b h now = go (lt b.score (f n)) refl
    where
      number-b : finite b.score ≡ true
      number-b = ap finite now.own ∙ number b.place now.within

      go : (t : Bool) → lt b.score (f n) ≡ t → Leading f many (suc n) (led_once (0 + n) (f n) b)
      go true l = rw (led-changed (0 + n) (f n) b l) (record {
        within = omega arith;
        own = ap f (sym (zero-add n));
        greatest = up-to-this f n (f n)
            (λ k g. le_trans (f k) b.score (f n) (now.greatest k g)
            (le_of_lt b.score (f n) (T_from_true (lt b.score (f n)) l)))
            (le_refl (f n) (finite-not-nan (f n) (number n h)));
      })
      go false l = rw (led-kept (0 + n) (f n) b l) (record {
        within = now.within;
        own = now.own;
        greatest = up-to-this f n b.score now.greatest
            (le_of_not-lt b.score (f n) (finite-not-nan b.score number-b) (finite-not-nan (f n) (number n h))
            (T_from_false (lt b.score (f n)) l));
      })

  pub leading : (n : ℕ) (b : Leader) → n ≤ many → Leading f many 0 b → Leading f many n (leads f 0 n b)
  leading zero b h start = start
  leading (suc n) b h start = leading-next n (leads f 0 n b) h (leading n b (omega arith) start)
