-- What the steps of the root (document 01, 'Arithmetic', Root) promise each other. Definitions
-- only.
use Rattle.std.specs.Prelude.{ℕ, ◌+◌, ◌*◌, ◌^◌, ◌≤◌, ◌<◌, false, ◌≡◌, Float}
use Rattle.std.specs.Float.{binary32}
use Rattle.std.specs.Float.Ieee.{of_bits}
use Rattle.std.specs.Float.Ieee.Exact.{HasValue}
use Rattle.float32.specs.Root.{root_of}

-- g is the whole number nearest to the root of n, for an n above 0: (g - 1/2) squared is below n,
-- and (g + 1/2) squared is above it.
pub record Near (n g : ℕ) : Type 0 where
  pub low : g * g < n + g
  pub high : n ≤ g * g + g

-- r is the pattern of the root of every x that is n * 2 ^ -149 with n * 2 ^ 149 = m * 2 ^ p, and
-- it is not that of the infinity or a NaN
pub record RootBits (m p r : ℕ) : Type 0 where
  pub root-of : (x : Float) (n : ℕ) → 0 < n → HasValue x false n (2 ^ 149) → n * 2 ^ 149 ≡ m * 2 ^ p
      → of_bits binary32 r ≡ root_of x
  pub finite : r < 0x7F80_0000
