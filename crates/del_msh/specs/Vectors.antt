-- What Rust itself means by the lines that build a list: a vector made, assigned and pushed onto,
-- `assert!`, `if` and `for`. A vector or a slice is the list of its elements, a `usize` a natural
-- number (its limit is far above every number of a permitted body). Definitions only.
use Rattle.std.specs.Prelude.{Bool, cond, List, [], ◌∷◌, ◌++◌, ℕ, zero, suc, leb, ltb, length, replicate}

module _ {ℓ} {A : Type ℓ} where
  -- `vec![x; n]`
  abbrev pub vec : A → ℕ → List A
  vec x n = replicate n x

  -- `xs.len()`
  abbrev pub len : List A → ℕ
  len xs = length xs

  -- `xs.push(x)`
  abbrev pub push : List A → A → List A
  push xs x = xs ++ (x ∷ [])

  -- `assert!(test)`, beside the vector that the lines after it use. Where it fails the Rust
  -- panics: nothing is left.
  abbrev pub assert : Bool → List A → List A
  assert test xs = cond test xs []

  -- xs with element i changed
  abbrev pub changed : List A → ℕ → (A → A) → List A
  changed [] i f = []
  changed (x ∷ xs) zero f = f x ∷ xs
  changed (x ∷ xs) (suc i) f = x ∷ changed xs i f

  -- The same; where there is no element i the Rust panics, and nothing is left.
  unfoldable pub change : List A → ℕ → (A → A) → List A
  change xs i f = cond (ltb i (length xs)) (changed xs i f) []

  -- `xs[i] = x`
  abbrev pub assign : List A → ℕ → A → List A
  assign xs i x = change xs i (λ old. x)

-- `if test { x } else { y }`, and `if test { return x; } y`
abbrev pub if : {A : Type 0} → Bool × A × A → A
if (test, x, y) = cond test x y

-- `a..b`
pub record Range : Type 0 where
  pub start : ℕ
  pub end : ℕ

infix 40 ◌‥◌
abbrev pub ◌‥◌ : ℕ → ℕ → Range
a ‥ b = record { start = a; end = b }

module _ {ℓ} {S : Type ℓ} where
  -- the turns from a up to b − 1, one after the other: those before the last, and then the last;
  -- none where a is not below b
  abbrev pub turns : ℕ → ℕ → (ℕ → S → S) → S → S
  turns a zero turn state = state
  turns a (suc b) turn state = cond (leb a b) (turn b (turns a b turn state)) state

  -- `for i in a..b { .. }`, over what its turns assign to or push onto
  abbrev pub for : Range × (ℕ → S → S) → S → S
  for (range, turn) state = turns range.start range.end turn state
