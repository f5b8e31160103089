-- More laws of a sum of the first n numbers. Assumes nothing.
use Rattle.std.proofs.Common.{◌≡◌, refl, ◌≢◌, ℕ, zero, suc, ◌+◌, ◌*◌, ◌≤◌, ◌<◌, ⊎_elim}
use Rattle.std.proofs.Common.{eq-zero-or-pos, eq-or-lt_of_le, le_of_suc-le-suc, arith}
use Rattle.laws.specs.Sums.{sum_below}
use Rattle.laws.proofs.Sums.{sum-within}

pub sum-cong : (n : ℕ) (f g : ℕ → ℕ) → ((k : ℕ) → k < n → f k ≡ g k) → sum_below n f ≡ sum_below n g
sum-cong zero f g h = refl
sum-cong (suc n) f g h = omega (arith, sum-cong n f g (λ k l. h k (omega arith)), h n (omega arith))

pub sum-const : (n : ℕ) (f : ℕ → ℕ) (c : ℕ) → ((k : ℕ) → k < n → f k ≡ c) → sum_below n f ≡ n * c
sum-const zero f c h = omega arith
sum-const (suc n) f c h = omega (arith, sum-const n f c (λ k l. h k (omega arith)), h n (omega arith))

pub sum-zero : (n : ℕ) (f : ℕ → ℕ) → ((k : ℕ) → k < n → f k ≡ 0) → sum_below n f ≡ 0
sum-zero n f h = omega (arith, sum-const n f 0 h)

pub sum-pos : (n : ℕ) (f : ℕ → ℕ) (k : ℕ) → k < n → 1 ≤ f k → 1 ≤ sum_below n f
sum-pos n f k l h = omega (arith, sum-within f k n l)

-- where a sum is not 0, one of its terms is not
pub sum-find : (n : ℕ) (f : ℕ → ℕ) → 1 ≤ sum_below n f → (k : ℕ) × (k < n) × (1 ≤ f k)
sum-find zero f h = absurd (omega arith)
sum-find (suc n) f h =
    ⊎_elim
    (λ e. let t = sum-find n f (omega arith) in (t.0, omega (arith, t.1), t.2))
    (λ p. (n, omega arith, p))
    (eq-zero-or-pos (f n))

-- Terms of at most 1, of which no two are 1 at once, add up to at most 1.
pub sum-once : (n : ℕ) (f : ℕ → ℕ) → ((k : ℕ) → k < n → f k ≤ 1)
    → ((k l : ℕ) → k < n → l < n → 1 ≤ f k → 1 ≤ f l → k ≡ l) → sum_below n f ≤ 1
sum-once zero f h u = omega arith
sum-once (suc n) f h u =
    let r = sum-once n f (λ k l. h k (omega arith)) (λ k l p q. u k l (omega arith) (omega arith)) in
    ⊎_elim
    (λ e. omega arith)
    (λ p. omega (
      arith,
      sum-zero n f (λ k l.
          ⊎_elim (λ e. e) (λ q. omega (arith, u k n (omega arith) (omega arith) q p)) (eq-zero-or-pos (f k))),
      h n (omega arith),
    ))
    (eq-zero-or-pos (f n))

pub sum-add : (n : ℕ) (f g : ℕ → ℕ) → sum_below n (λ k. f k + g k) ≡ sum_below n f + sum_below n g
sum-add zero f g = refl
sum-add (suc n) f g = omega (arith, sum-add n f g)

pub sum-mul : (n c : ℕ) (f : ℕ → ℕ) → sum_below n (λ k. c * f k) ≡ c * sum_below n f
sum-mul zero c f = omega arith
sum-mul (suc n) c f = omega (arith, sum-mul n c f)

-- one term only
pub sum-at : (n : ℕ) (f : ℕ → ℕ) (c : ℕ) → c < n → ((k : ℕ) → k < n → k ≢ c → f k ≡ 0) → sum_below n f ≡ f c
sum-at zero f c l z = absurd (omega arith)
sum-at (suc n) f c l z =
    ⊎_elim
    (λ e. rw e (omega (arith, sum-zero n f (λ k h. z k (omega arith) (omega arith)))))
    (λ l'. omega (arith, sum-at n f c l' (λ k h ne. z k (omega arith) ne), z n (omega arith) (omega arith)))
    (eq-or-lt_of_le (le_of_suc-le-suc l))
