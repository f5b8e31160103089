-- How `are_finite` looks at 16 floats side by side: lane k has float k of each block of 16, and a
-- sum of its own. Definitions only.
use Rattle.std.specs.Prelude.{Bool, List, [], Float, length, get_or}
use Rattle.std.specs.Float.{nan, binary32}
use Rattle.std.specs.Float.Ieee.{add, mul, eq, of_bits}
use Rattle.std.specs.Float.Ieee.Scale.{finite}
use Rattle.laws.specs.Every.{every}

-- what a sum is after x times 0.0 is added
abbrev pub sum_after : Float → Float → Float
sum_after sum x = add binary32 sum (mul binary32 x (of_bits binary32 0))

-- whether each sum is a zero
unfoldable pub all_zeros : List Float → Bool
all_zeros sums = every (length sums) (λ k. eq (get_or sums k nan) (of_bits binary32 0))

-- whether each float of each block is finite, lane by lane
unfoldable pub blocks_finite : List (List Float) → Bool
blocks_finite blocks = every 16 (λ k. every (length blocks) (λ j. finite (get_or (get_or blocks j []) k nan)))
