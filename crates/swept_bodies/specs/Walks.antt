-- A walk along a curve's segments, which calls a function on each segment after the first: what it
-- asks of the function, and what the calls leave. Definitions only.
use Rattle.std.specs.Prelude.{◌≡◌, List, ℕ, ◌+◌, ◌-◌, ◌≤◌, ◌<◌, length}
use Rattle.std.specs.Borrow.{MutBor}
use Rattle.laws.specs.Blocks.{blocks}
use Rattle.laws.specs.Overwrite.{overwrite}
use Rattle.curve.specs.Framex.{carried_of}
use Rattle.curve.specs.declared.framex.Carried.{Carried}
use Rattle.curve.specs.declared.segments.Segments.{Segments}

-- a segment after the first, and what is carried on it
pub record CarriedOn (s : Segments) (g : ℕ) (carried : Carried) : Type 0 where
  pub later : 1 ≤ g
  pub within : g < s.count
  pub same : carried ≡ carried_of s.chain s.count s.curve.now g

-- the function may be called on each segment after the first, with `size` elements to write to
abbrev pub MayWrite : {A : Type 0} → Segments → ℕ → (ℕ → Carried → MutBor (List A) → Type 0) → Type 0
MayWrite {A} s size pre =
    (g : ℕ) (carried : Carried) (lent : MutBor (List A)) → CarriedOn s g carried → size ≤ length lent.now
    → pre g carried lent

-- each call writes the segment's part, of `size` elements, to the front of what is lent
pub record WritesParts {A : Type 0} (s : Segments) (size : ℕ) (part : ℕ → List A)
    (post : ℕ → Carried → MutBor (List A) → Unit {0} → MutBor (List A) → Type 0) : Type 0 where
  pub sized : (g : ℕ) → length (part g) ≡ size
  pub front : (g : ℕ) (carried : Carried) (lent left : MutBor (List A)) → CarriedOn s g carried
      → post g carried lent tt left → left.now ≡ overwrite 0 (part g) lent.now

-- If each call writes its segment's part, the calls on the segments before segment m leave these
-- parts one after the other.
abbrev pub Written : {A : Type 0} → Segments → ℕ → ℕ → List A → List A
    → (ℕ → Carried → MutBor (List A) → Unit {0} → MutBor (List A) → Type 0) → Type 0
Written {A} s m size before after post =
    (part : ℕ → List A) → WritesParts s size part post
    → after ≡ overwrite 0 (blocks (m - 1) (λ k. part (k + 1))) before
