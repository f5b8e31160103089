-- "+0 throughout": so many floats, each +0 (document 01, 'Refused, and through whom', 23).
-- Definitions only.
use Rattle.std.specs.Prelude.{List, ℕ, Float, replicate}
use Rattle.std.specs.Float.{binary32}
use Rattle.std.specs.Float.Ieee.{of_bits}

abbrev pub zeros : ℕ → List Float
zeros n = replicate n (of_bits binary32 0)
