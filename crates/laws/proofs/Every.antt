-- What it says that a test holds for every k below n, and the laws of the loops that try it. Assumes
-- nothing.
use Rattle.std.specs.Prelude.{◌≡◌, refl, Bool, true, false, ◌&&◌, ℕ, zero, suc, ◌+◌, ◌<◌}
use Rattle.std.proofs.Common.{sym, ap, ◌∙◌, ⊎_elim, not-suc-le-zero, le_of_suc-le-suc, eq-or-lt_of_le, add-one, arith}
use Rattle.std.proofs.Math.Bool.{and-true, and-false}
use Rattle.std.proofs.lemmas.Bool.{and_parts}
use Rattle.laws.specs.Every.{every}

-- what a reader takes it for, in both directions
pub every-each : (n : ℕ) (f : ℕ → Bool) → every n f ≡ true → (k : ℕ) → k < n → f k ≡ true
every-each zero f all k h = absurd (not-suc-le-zero h)
every-each (suc n) f all k h =
    let both = and_parts (every n f) (f n) all in
    ⊎_elim (λ same. ap f same ∙ both.1) (λ lower. every-each n f both.0 k lower) (eq-or-lt_of_le (le_of_suc-le-suc h))

pub each-every : (n : ℕ) (f : ℕ → Bool) → ((k : ℕ) → k < n → f k ≡ true) → every n f ≡ true
each-every zero f each = refl
each-every (suc n) f each =
    ap (λ (b : Bool). b && f n) (each-every n f (λ k h. each k (omega arith))) ∙ each n (omega arith)

-- tests that agree below n
pub every-cong : (n : ℕ) (f g : ℕ → Bool) → ((k : ℕ) → k < n → f k ≡ g k) → every n f ≡ every n g
every-cong zero f g h = refl
every-cong (suc n) f g h = λ i. every-cong n f g (λ k l. h k (omega arith)) i && h n (omega arith) i

-- A turn of a loop that keeps the answer so far in a flag; and one that clears the flag where the
-- test fails.
every-next : (i : ℕ) (f : ℕ → Bool) {flag next : Bool} → flag ≡ every i f → next ≡ flag && f i → next ≡ every (i + 1) f
every-next i f {flag} {next} before is =
    is ∙ ap (λ (b : Bool). b && f i) before ∙ ap (λ (k : ℕ). every k f) (sym (add-one i))

pub flag-kept : (i : ℕ) (f : ℕ → Bool) {flag next : Bool} → flag ≡ every i f → next ≡ flag → f i ≡ true
    → next ≡ every (i + 1) f
flag-kept i f {flag} {next} before kept here =
    every-next i f before (kept ∙ sym (ap (λ (b : Bool). flag && b) here ∙ and-true flag))

pub flag_cleared : (i : ℕ) (f : ℕ → Bool) {next : Bool} → next ≡ false → f i ≡ false → next ≡ every (i + 1) f
flag_cleared i f {next} cleared fails =
    every-next i f refl (cleared ∙ sym (ap (λ (b : Bool). every i f && b) fails ∙ and-false (every i f)))

-- A turn of a loop that goes on only while the test holds, and the turn at which it stops.
pub every_more : (i : ℕ) (f : ℕ → Bool) → every i f ≡ true → f i ≡ true → every (i + 1) f ≡ true
every_more i f all here = sym (flag-kept i f (sym all) refl here)

pub every-fails : (n : ℕ) (f : ℕ → Bool) (k : ℕ) → k < n → f k ≡ false → every n f ≡ false
every-fails zero f k h fails = absurd (not-suc-le-zero h)
every-fails (suc n) f k h fails =
    ⊎_elim
    (λ same. ap (λ (b : Bool). every n f && b) (ap f (sym same) ∙ fails) ∙ and-false (every n f))
    (λ lower. ap (λ (b : Bool). b && f n) (every-fails n f k lower fails))
    (eq-or-lt_of_le (le_of_suc-le-suc h))
