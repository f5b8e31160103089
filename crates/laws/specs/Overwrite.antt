-- What a buffer holds after a write, as one list: every element, as document 01, 'At review',
-- wants it. Definitions only.
use Rattle.std.specs.Prelude.{Bool, true, false, List, [], ◌∷◌, ℕ, zero, suc}

module _ {ℓ} {A : Type ℓ} where
  -- `old` with `new` written over it from place `at` on. What would fall past the end of `old` is
  -- not written, so the length stays and the laws ask for no room.
  abbrev pub overwrite : ℕ → List A → List A → List A
  overwrite at new [] = []
  overwrite zero [] (x ∷ old) = x ∷ old
  overwrite zero (y ∷ new) (x ∷ old) = y ∷ overwrite zero new old
  overwrite (suc at) new (x ∷ old) = x ∷ overwrite at new old

  -- `old` with `new` at its front, or as it was ("leave all buffers untouched", 'Refused, and
  -- through whom')
  abbrev pub placed : Bool → List A → List A → List A
  placed true new old = overwrite zero new old
  placed false new old = old
