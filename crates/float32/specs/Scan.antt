-- Whether all of a list is finite: what 11 asks of a curve's coordinates and 23 of a body's
-- (document 01, 'Refused, and through whom'). Definitions only.
use Rattle.std.specs.Prelude.{Bool, List, Float, length, get_or}
use Rattle.std.specs.Float.{nan}
use Rattle.std.specs.Float.Ieee.Scale.{finite}
use Rattle.laws.specs.Every.{every}

unfoldable pub all_finite : List Float → Bool
all_finite l = every (length l) (λ i. finite (get_or l i nan))
