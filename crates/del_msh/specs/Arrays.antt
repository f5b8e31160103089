-- The arrays that the vectors of the source hold, `[f32; 3]` for a point and `[usize; 3]` for a
-- triangle, read and assigned; and the operations on `usize` that may panic. Definitions only.
use Rattle.std.specs.Prelude.{cond, List, ℕ, ◌-◌, ◌/◌, ◌%◌, leb, Float, get_or}
use Rattle.std.specs.Float.{binary32}
use Rattle.std.specs.Float.Ieee.{of_bits}
use Rattle.surface.specs.Triangles.{Triangle, triangle}
use Rattle.vec3.specs.declared.points.Point.{Point}
use Rattle.del_msh.specs.Vectors.{change}

-- `[x, y, z]` of floats; of whole numbers it is `triangle a b c`
abbrev pub xyz : Float → Float → Float → Point
xyz x y z = record { x = x; y = y; z = z }

-- `0f32` and `1f32`, which the source has of its `T`; 3F800000 is 1
abbrev pub zero : Float
zero = of_bits binary32 0

abbrev pub one : Float
one = of_bits binary32 0x3F80_0000

-- `[0f32; 3]` and `[0usize; 3]`
abbrev pub zeros : Point
zeros = xyz zero zero zero

abbrev pub zero_triangle : Triangle
zero_triangle = triangle 0 0 0

-- What a read past a list's end would give, and a difference below zero or a quotient by zero.
-- The Rust panics there; of these nothing is known.
pub record Outside : Type 0 where
  pub point : Point
  pub number : ℕ

-- `points[i]`
abbrev pub read : Outside → List Point → ℕ → Point
read outside points i = get_or points i outside.point

-- `a - b`, `a / b` and `a % b` on `usize`; the transcribed functions write them -?, /? and %?
abbrev pub minus : Outside → ℕ → ℕ → ℕ
minus outside a b = cond (leb b a) (a - b) outside.number

abbrev pub quotient : Outside → ℕ → ℕ → ℕ
quotient outside a b = cond (leb 1 b) (a / b) outside.number

abbrev pub remainder : Outside → ℕ → ℕ → ℕ
remainder outside a b = cond (leb 1 b) (a % b) outside.number

-- `xs[i][0] = v`, `xs[i][1] = v` and `xs[i][2] = v` of points
abbrev pub assign_x : List Point → ℕ → Float → List Point
assign_x xs i v = change xs i (λ p. xyz v p.y p.z)

abbrev pub assign_y : List Point → ℕ → Float → List Point
assign_y xs i v = change xs i (λ p. xyz p.x v p.z)

abbrev pub assign_z : List Point → ℕ → Float → List Point
assign_z xs i v = change xs i (λ p. xyz p.x p.y v)

-- the same of triangles
abbrev pub first : ℕ → Triangle → Triangle
first v (triangle a b c) = triangle v b c

abbrev pub second : ℕ → Triangle → Triangle
second v (triangle a b c) = triangle a v c

abbrev pub third : ℕ → Triangle → Triangle
third v (triangle a b c) = triangle a b v

abbrev pub assign0 : List Triangle → ℕ → ℕ → List Triangle
assign0 xs i v = change xs i (first v)

abbrev pub assign1 : List Triangle → ℕ → ℕ → List Triangle
assign1 xs i v = change xs i (second v)

abbrev pub assign2 : List Triangle → ℕ → ℕ → List Triangle
assign2 xs i v = change xs i (third v)
