-- The limits of the numbers that make a body. Document 01, 'Refused, and through whom'.
-- Definitions only.
use Rattle.std.specs.Prelude.{Bool, ◌&&◌, ℕ, ◌+◌, ◌*◌, leb}

abbrev pub between : ℕ → ℕ → ℕ → Bool
between least most x = leb least x && leb x most

-- 10: curve vertices 2 to 4,096, which is 1 to 4,095 segments; 3 to 4,096 for a torus
abbrev pub segment_count_permitted : ℕ → Bool
segment_count_permitted m = between 1 4095 m

abbrev pub least_loop : ℕ
least_loop = 3

abbrev pub most_loop : ℕ
most_loop = 4096

abbrev pub loop_permitted : ℕ → Bool
loop_permitted N = between least_loop most_loop N

-- 20: n from 3 to 256
abbrev pub least_round : ℕ
least_round = 3

abbrev pub most_round : ℕ
most_round = 256

abbrev pub divisions_permitted : ℕ → Bool
divisions_permitted n = between least_round most_round n

-- 21: L no more than 256 and 2L + m no less than 3; layers S from 1 to 4,096
abbrev pub longitudes_permitted : ℕ → ℕ → Bool
longitudes_permitted L m = leb L 256 && leb 3 (2 * L + m)

abbrev pub layers_permitted : ℕ → Bool
layers_permitted S = between 1 4096 S
