-- The square root of an `f32` (document 01, 'Arithmetic', Root): nearest, ties to even, over whole
-- numbers by comparing squares. Definitions only.
use Prim.Native.Nat.{ℕ, zero, suc, ◌+◌, ◌-◌, ◌*◌, ◌/◌, ◌^◌, compare}
use Rattle.std.specs.Prelude.{true, false, Float}
use Rattle.std.specs.Float.{nan, inf, fin, binary32}
use Rattle.std.specs.Float.Ieee.{up, down, size, nearest, units}
use Rattle.float32.specs.WholeRoot.{whole_root}

-- The root of n * 2 ^ -149, for an n above 0. In units of 2 ^ -149, the smallest value of an
-- `f32`, it is the root of w = n * 2 ^ 149. Of its whole part r the format keeps the 24 leading
-- digits, q, and drops k. So the root lies from q * 2 ^ k up to (q + 1) * 2 ^ k, and goes to the
-- nearer of the two, at a tie to the even one: 4 * w is compared with the square of h, which is
-- twice the number in the middle.
unfoldable pub root_of_units : ℕ → Float
root_of_units n =
    let w = n * 2 ^ 149 in
    let r = whole_root w in
    let k = size r - 24 in
    let q = r / 2 ^ k in
    let h = (2 * q + 1) * 2 ^ k in
    units binary32 false (nearest q (compare (4 * w) (h * h))) k

-- A number above zero is (suc m) * 2 ^ e, which is so many units of 2 ^ -149. -0 gives -0,
-- +infinity itself, other negatives and NaN a NaN.
unfoldable pub root_of : Float → Float
root_of (fin false (suc m) e) = root_of_units (suc m * up e * 2 ^ 149 / down e)
root_of (fin s zero e) = fin s zero e
root_of (inf false) = inf false
root_of (fin true (suc m) e) = nan
root_of (inf true) = nan
root_of nan = nan
