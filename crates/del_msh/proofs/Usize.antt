-- The operations on `usize` where they do not panic are those of natural numbers. Assumes nothing.
use mathlib.Core.Path.{◌≡◌}
use Prim.Native.Nat.{ℕ, ◌+◌, ◌/◌, ◌%◌, ◌≤◌}
use native.Mathlib.Omega.{arith}
use borrow.Author.Tests.{le-leb}
use Rattle.del_msh.specs.Arrays.{Outside, minus, quotient, remainder}

pub minus_is : (outside : Outside) (a b c : ℕ) → c + b ≡ a → minus outside a b ≡ c
minus_is outside a b c sum = rw (le-leb b a (omega arith)) (omega arith)

pub quotient_is : (outside : Outside) (a b : ℕ) → 1 ≤ b → quotient outside a b ≡ a / b
quotient_is outside a b h = rw (le-leb 1 b h)

pub remainder_is : (outside : Outside) (a b : ℕ) → 1 ≤ b → remainder outside a b ≡ a % b
remainder_is outside a b h = rw (le-leb 1 b h)
