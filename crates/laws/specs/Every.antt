-- Whether a test holds for every k below n: the conditions of document 01, 'Refused, and through
-- whom', that speak of a coordinate, a segment or a vertex are tried over the whole curve.
-- Definitions only.
use Rattle.std.specs.Prelude.{Bool, true, ◌&&◌, ℕ, zero, suc}

abbrev pub every : ℕ → (ℕ → Bool) → Bool
every zero holds = true
every (suc n) holds = every n holds && holds n
