-- Points: each operation rounded once, in the order written (document 01, 'Arithmetic').
-- Definitions only.
use Rattle.std.specs.Prelude.{List, [], ◌∷◌, ℕ, Float, slice_index_or}
use Rattle.vec3.specs.declared.points.Point.{Point}
use Rattle.float32.specs.Root.{root_of}
use Rattle.std.specs.Float.Ieee as Ieee
use Rattle.std.specs.Float.{binary32, nan}

-- the four operations of an `f32`
abbrev pub plus : Float → Float → Float
plus = Ieee.add binary32

abbrev pub less : Float → Float → Float
less = Ieee.sub binary32

abbrev pub times : Float → Float → Float
times = Ieee.mul binary32

abbrev pub over : Float → Float → Float
over = Ieee.div binary32

-- the same number on each axis
unfoldable pub thrice : Float → Point
thrice k = record { x = k; y = k; z = k }

-- "Vertices are three f32 each" ('The shared set').
abbrev pub coordinates : Point → List Float
coordinates p = p.x ∷ p.y ∷ p.z ∷ []

-- point i of a list, or NaNs where the list has no point i
abbrev pub point_in : List Point → ℕ → Point
point_in points i = slice_index_or points i (record { x = nan; y = nan; z = nan })

-- component by component
unfoldable pub sum_of : Point → Point → Point
sum_of a b = record { x = plus a.x b.x; y = plus a.y b.y; z = plus a.z b.z }

unfoldable pub difference_of : Point → Point → Point
difference_of a b = record { x = less a.x b.x; y = less a.y b.y; z = less a.z b.z }

unfoldable pub scaled : Point → Float → Point
scaled a k = record { x = times a.x k; y = times a.y k; z = times a.z k }

unfoldable pub product_of : Point → Point → Point
product_of a b = record { x = times a.x b.x; y = times a.y b.y; z = times a.z b.z }

unfoldable pub quotient_of : Point → Float → Point
quotient_of a k = record { x = over a.x k; y = over a.y k; z = over a.z k }

-- "Dot is x·x' + y·y' + z·z', left to right."
unfoldable pub dot_of : Point → Point → Float
dot_of a b = plus (plus (times a.x b.x) (times a.y b.y)) (times a.z b.z)

-- "Cross is (y·z' − z·y', z·x' − x·z', x·y' − y·x')."
unfoldable pub cross_of : Point → Point → Point
cross_of a b = record {
  x = less (times a.y b.z) (times a.z b.y);
  y = less (times a.z b.x) (times a.x b.z);
  z = less (times a.x b.y) (times a.y b.x);
}

-- "Norm is the root of the dot with itself; normalising divides each component by the norm."
unfoldable pub norm_of : Point → Float
norm_of a = root_of (dot_of a a)

unfoldable pub normalised : Point → Point
normalised a = quotient_of a (norm_of a)
