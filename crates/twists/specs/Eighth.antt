-- The directions of k/4096 turn are those of an eighth of a turn, with their numbers exchanged or
-- negated (document 01, 'Arithmetic', "For o = 0 to 7 the pair is ..."). Definitions only.
use Rattle.std.specs.Prelude.{◌≡◌, Bool, cond, List, ℕ, ◌-◌, ◌*◌, ◌<◌, Float, get_or}
use Rattle.std.specs.Float.{nan}
use Rattle.vec3.specs.Turns.{fraction, within_octant}
use Rattle.vec3.specs.declared.turns.Direction.{Direction}

-- the pair (c, s) of y = 8i/4096, for i from 0 to 512
unfoldable pub eighth_of : ℕ → Direction
eighth_of i = within_octant (fraction (8 * i) 4096)

-- "y = r/n for even o, (n − r)/n for odd o": which of them step j of an octant has
abbrev pub entry_at : Bool → ℕ → ℕ
entry_at odd j = cond odd (512 - j) j

-- the cosines and the sines of these pairs
abbrev pub cosine_at : ℕ → Float
cosine_at i = (eighth_of i).cos

abbrev pub sine_at : ℕ → Float
sine_at i = (eighth_of i).sin

-- a list holds f 0, f 1 and so on at its first n places
abbrev pub Tabulates : ℕ → (ℕ → Float) → List Float → Type 0
Tabulates n f list = (i : ℕ) → i < n → get_or list i nan ≡ f i
