-- A part of a list: `count` elements from place `at` on. It is what `&s[at..at + count]` lends.
-- Definitions only.
use Rattle.std.specs.Prelude.{List, ℕ, take, drop}

abbrev pub part : {A : Type 0} → ℕ → ℕ → List A → List A
part at count l = take count (drop at l)
