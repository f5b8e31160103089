-- Two pairs of tests, tried in another order. Assumes nothing.
use Rattle.std.specs.Prelude.{◌≡◌, refl, Bool, true, false, ◌&&◌}

pub and-exchange : (a b c d : Bool) → (a && b) && (c && d) ≡ (a && c) && (b && d)
and-exchange true true c d = refl
and-exchange true false true d = refl
and-exchange true false false d = refl
and-exchange false b c d = refl
