-- Numbers of a buffer copied within it, with the same number added to each. Definitions only.
use Rattle.std.specs.Prelude.{List, [], ◌∷◌, map, take, ℕ, ◌+◌, ◌*◌, ◌≤◌, ◌<◌, length}
use Rattle.surface.specs.Limits.{most_in_all}

abbrev pub raised : ℕ → List ℕ → List ℕ
raised rise l = map (λ n. rise + n) l

-- copy k of a list, where each copy is the one before it raised; copy 0 is the list itself
abbrev pub copy_of : ℕ → List ℕ → ℕ → List ℕ
copy_of rise l k = raised (k * rise) l

-- every number of a list is below a bound
abbrev pub Below : ℕ → List ℕ → Type 0
Below bound [] = Unit {0}
Below bound (n ∷ l) = (n < bound) × Below bound l

-- What one copy asks: it has room, and its numbers are below `most_in_all`.
pub record RaiseFits (rise : ℕ) (from : List ℕ) (room : ℕ) : Type 0 where
  pub within : length from ≤ room
  pub numbers : Below most_in_all (raised rise from)

-- What `times` copies of the first `size` numbers, each right after the last, ask.
pub record RepeatFits (size times rise : ℕ) (l : List ℕ) : Type 0 where
  pub some : 0 < times
  pub within : times * size ≤ length l
  pub rises : times * rise ≤ most_in_all
  pub numbers : (k : ℕ) → k < times → Below most_in_all (copy_of rise (take size l) k)
