-- The laws of the loops that build a list: what an assignment leaves, and the two laws of every
-- loop that assigns or pushes blocks. Assumes nothing.
use mathlib.Core.Path.{◌≡◌, refl, sym, ap, ◌∙◌}
use mathlib.Core.Bool.{cond}
use mathlib.Core.List.{List, [], ◌∷◌, ◌++◌, append-nil, append_assoc}
use mathlib.Core.Logic.{⊎_elim}
use Prim.Native.Nat.{ℕ, zero, suc, ◌+◌, ◌*◌, ◌≤◌, ◌<◌}
use native.Mathlib.Nat.{eq-or-lt_of_le, le_of_suc-le-suc}
use native.Mathlib.Omega.{arith}
use borrow.Author.Tests.{le-leb, lt-leb, lt-ltb}
use lib.ListN.{length}
use Rattle.laws.specs.Overwrite.{overwrite}
use Rattle.laws.proofs.Overwrite.{overwrite-none, overwrite-append, length-overwrite}
use Rattle.laws.specs.Blocks.{blocks}
use Rattle.laws.proofs.Blocks.{length-blocks}
use Rattle.del_msh.specs.Vectors.{changed, change, assign, turns}

module _ {ℓ} {S : Type ℓ} where
  -- what holds before a loop, and from each turn to the next, holds behind it
  invariant : (a n : ℕ) (turn : ℕ → S → S) (state : ℕ → S) → a ≤ n
      → ((i : ℕ) → a ≤ i → i < n → turn i (state i) ≡ state (suc i)) → turns a n turn (state a) ≡ state n
  invariant a zero turn state h each = let e : a ≡ 0 = omega arith in ap state e
  invariant a (suc n) turn state h each =
      ⊎_elim
      (λ last. ap (λ b. cond b (turn n (turns a n turn (state a))) (state a)) (lt-leb a n (omega arith)) ∙ ap state last)
      (λ lower. ap (λ b. cond b (turn n (turns a n turn (state a))) (state a)) (le-leb a n (le_of_suc-le-suc lower))
      ∙ ap (turn n) (invariant a n turn state (le_of_suc-le-suc lower) (λ i l u. each i l (omega arith)))
      ∙ each n (le_of_suc-le-suc lower) (omega arith))
      (eq-or-lt_of_le h)

module _ {ℓ} {A : Type ℓ} where
  length-changed : (xs : List A) (i : ℕ) (f : A → A) → length (changed xs i f) ≡ length xs
  length-changed [] i f = refl
  length-changed (x ∷ xs) zero f = refl
  length-changed (x ∷ xs) (suc i) f = ap suc (length-changed xs i f)

  changed-twice : (xs : List A) (i : ℕ) (f g : A → A) → changed (changed xs i f) i g ≡ changed xs i (λ x. g (f x))
  changed-twice [] i f g = refl
  changed-twice (x ∷ xs) zero f g = refl
  changed-twice (x ∷ xs) (suc i) f g = ap (λ (r : List A). x ∷ r) (changed-twice xs i f g)

  changed-to : (f : A → A) (y : A) → ((x : A) → f x ≡ y) → (i : ℕ) (xs : List A)
      → changed xs i f ≡ overwrite i (y ∷ []) xs
  changed-to f y same i [] = refl
  changed-to f y same zero (x ∷ xs) = λ j. same x j ∷ sym (overwrite-none zero xs) j
  changed-to f y same (suc i) (x ∷ xs) = ap (λ (r : List A). x ∷ r) (changed-to f y same i xs)

  change-is : (xs : List A) (i : ℕ) (f : A → A) → i < length xs → change xs i f ≡ changed xs i f
  unfolding change
  change-is xs i f h = rw (lt-ltb i (length xs) h)

  -- `xs[p] = v` under other names of its place and its value
  pub assigned : (room p q : ℕ) {v w : A} (t : List A) → q < room → p ≡ q → v ≡ w → length t ≡ room
      → assign t p v ≡ overwrite q (w ∷ []) t
  assigned room p q {v} t h place is long =
      change-is t p (λ old. v) (omega arith)
      ∙ changed-to (λ old. v) v (λ x. refl) p t
      ∙ (λ j. overwrite (place j) (is j ∷ []) t)

  -- two elements, one after the other
  pub two-assigned : (room p q : ℕ) {v w v' w' : A} (t : List A) → q + 1 < room → p ≡ q → v ≡ v' → w ≡ w'
      → length t ≡ room
      → assign (assign t p v) (p + 1) w ≡ overwrite q (v' ∷ w' ∷ []) t
  two-assigned room p q {v} {w} {v'} {w'} t h place is so long =
      ap (λ (l : List A). assign l (p + 1) w) (assigned room p q t (omega arith) place is long)
      ∙ assigned room (p + 1) (q + 1) (overwrite q (v' ∷ []) t) h (omega arith) so (length-overwrite q (v' ∷ []) t ∙ long)
      ∙ overwrite-append q (v' ∷ []) (w' ∷ []) t

  -- three components of one element
  pub assigned-by-three : (f g h : A → A) (y : A) → ((x : A) → h (g (f x)) ≡ y) → (i : ℕ) (xs : List A) → i < length xs
      → change (change (change xs i f) i g) i h ≡ overwrite i (y ∷ []) xs
  assigned-by-three f g h y same i xs l =
      let both : A → A = λ x. g (f x) in
      ap (λ (t : List A). change (change t i g) i h) (change-is xs i f l)
      ∙ ap (λ (t : List A). change t i h) (change-is (changed xs i f) i g (omega (arith, length-changed xs i f)) ∙ changed-twice xs i f g)
      ∙ change-is (changed xs i both) i h (omega (arith, length-changed xs i both))
      ∙ changed-twice xs i both h
      ∙ changed-to (λ x. h (both x)) y same i xs

  -- A loop that writes block i of c elements at place at + i * c, whatever else it reads.
  pub writes : (a n at c : ℕ) (f : ℕ → List A) (turn : ℕ → List A → List A) (t₀ : List A) → a ≤ n
      → ((k : ℕ) → length (f k) ≡ c)
      → ((i : ℕ) → a ≤ i → i < n → (t : List A) → t ≡ overwrite at (blocks i f) t₀ → turn i t ≡ overwrite (at + i * c) (f i) t)
      → turns a n turn (overwrite at (blocks a f) t₀) ≡ overwrite at (blocks n f) t₀
  writes a n at c f turn t₀ h sized each =
      invariant a n turn (λ i. overwrite at (blocks i f) t₀) h (λ i l u.
      each i l u (overwrite at (blocks i f) t₀) refl
      ∙ ap (λ (k : ℕ). overwrite (at + k) (f i) (overwrite at (blocks i f) t₀)) (sym (length-blocks c i f (λ k _. sized k)))
      ∙ overwrite-append at (blocks i f) (f i) t₀)

  -- The same from 0 on, where what is written does not depend on what was.
  pub fills : (n at c : ℕ) (f : ℕ → List A) (turn : ℕ → List A → List A) (t₀ : List A) → ((k : ℕ) → length (f k) ≡ c)
      → ((i : ℕ) → i < n → (t : List A) → length t ≡ length t₀ → turn i t ≡ overwrite (at + i * c) (f i) t)
      → turns 0 n turn t₀ ≡ overwrite at (blocks n f) t₀
  fills n at c f turn t₀ sized each =
      ap (turns 0 n turn) (sym (overwrite-none at t₀))
      ∙ writes 0 n at c f turn t₀ (omega arith) sized (λ i l u t is. each i u t (ap length is ∙ length-overwrite at (blocks i f) t₀))

  -- A loop that pushes block i.
  pub pushes : (n : ℕ) (f : ℕ → List A) (turn : ℕ → List A → List A) (t₀ : List A)
      → ((i : ℕ) → i < n → (t : List A) → turn i t ≡ t ++ f i)
      → turns 0 n turn t₀ ≡ t₀ ++ blocks n f
  pushes n f turn t₀ each =
      ap (turns 0 n turn) (sym (append-nil t₀))
      ∙ invariant 0 n turn (λ i. t₀ ++ blocks i f) (omega arith) (λ i l u. each i u (t₀ ++ blocks i f) ∙ append_assoc t₀ (blocks i f) (f i))
