-- A list made of blocks, one after the other ("for j from 0", "each layer g and each i" of
-- document 01, 'Triangle lists'). Definitions only.
use Rattle.std.specs.Prelude.{List, [], ◌++◌, ℕ, zero, suc}

module _ {ℓ} {A : Type ℓ} where
  -- f 0, then f 1, up to f (n - 1), one after the other. It grows at its end, as the loop that
  -- writes it does.
  abbrev pub blocks : ℕ → (ℕ → List A) → List A
  blocks zero f = []
  blocks (suc n) f = blocks n f ++ f n
