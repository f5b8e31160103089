-- The direction of k/n turn (document 01, 'Arithmetic'). Definitions only.
use Rattle.std.specs.Prelude.{ℕ, ◌-◌, ◌*◌, ◌/◌, ◌%◌, ◌^◌, ◌&&◌, cond, [], ◌∷◌, get_or, pos, eqb, ltb, leb, Float}
use Rattle.std.specs.Float.{binary32}
use Rattle.std.specs.Float.Ieee.{of_int, of_bits, neg}
use Rattle.vec3.specs.Points.{plus, times, over}
use Rattle.vec3.specs.declared.turns.Direction.{Direction}

-- The whole number n as an `f32`, which holds every n up to 2^24.
unfoldable pub whole : ℕ → Float
whole n = of_int binary32 (pos n)

-- "Fractions are rounded quotients": p/q and −p/q.
unfoldable pub fraction : ℕ → ℕ → Float
fraction p q = over (whole p) (whole q)

unfoldable pub minus_fraction : ℕ → ℕ → Float
minus_fraction p q = over (neg (whole p)) (whole q)

-- "y = r/n for even o, (n − r)/n for odd o"
unfoldable pub part_of : ℕ → ℕ → ℕ → Float
part_of o r n = cond (eqb (o % 2) 0) (fraction r n) (fraction (n - r) n)

-- a + z·b, a bracket of the two sums below
unfoldable pub bracket : Float → Float → Float → Float
bracket a z b = plus a (times z b)

-- "s = a·(1 + z·(−1/6 + z·(1/120 + z·(−1/5040 + z·(1/362880)))))"
unfoldable pub sine_of : Float → Float → Float
sine_of a z =
    times a
    (bracket (whole 1) z (bracket (minus_fraction 1 6) z
    (bracket (fraction 1 120) z (bracket (minus_fraction 1 5040) z (fraction 1 362880)))))

-- "c = 1 + z·(−1/2 + z·(1/24 + z·(−1/720 + z·(1/40320))))"
unfoldable pub cosine_of : Float → Float
cosine_of z =
    bracket (whole 1) z (bracket (minus_fraction 1 2) z
    (bracket (fraction 1 24) z (bracket (minus_fraction 1 720) z (fraction 1 40320))))

abbrev pub pair : Float → Float → Direction
pair c s = record { cos = c; sin = s }

-- "For o = 0 to 7 the pair is (c,s), (s,c), (−s,c), (−c,s), (−c,−s), (−s,−c), (s,−c), (c,−s)."
unfoldable pub in_octant : ℕ → Float → Float → Direction
in_octant o c s =
    get_or (
    pair c s ∷ pair s c ∷ pair (neg s) c ∷ pair (neg c) s
    ∷ pair (neg c) (neg s) ∷ pair (neg s) (neg c) ∷ pair s (neg c) ∷ pair c (neg s) ∷ []
    ) o (pair c s)

-- "a = y times the f32 with bits 3F490FDB (hexadecimal); z = a·a", then s and c: the pair (c, s)
-- of y
unfoldable pub within_octant : Float → Direction
within_octant y =
    let a = times y (of_bits binary32 0x3F49_0FDB) in
    let z = times a a in
    pair (cosine_of z) (sine_of a z)

-- "Let o be the quotient of 8k by n and r the remainder": the pair of y, in octant o
unfoldable pub direction_of : ℕ → ℕ → Direction
direction_of k n =
    let o = 8 * k / n in
    let r = 8 * k % n in
    let d = within_octant (part_of o r n) in
    in_octant o d.cos d.sin

-- turn(k, n), "0 ≤ k < n ≤ 2^24". For other k and n, of which the paper says nothing, the
-- direction of no turn.
unfoldable pub turn_of : ℕ → ℕ → Direction
turn_of k n = cond (ltb k n && leb n (2 ^ 24)) (direction_of k n) (pair (whole 1) (whole 0))
