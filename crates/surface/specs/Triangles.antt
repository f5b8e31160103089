-- Triangles and the numbers that a buffer holds of them. Document 01, 'Triangle lists' and 'The
-- shared set'. Definitions only.
use Rattle.std.specs.Prelude.{List, [], ◌∷◌, ℕ, ◌+◌}

-- Triangle (a, b, c).
pub data Triangle : Type 0 where
  triangle : ℕ → ℕ → ℕ → Triangle

-- "Vertices are three f32 each, triangles three u32": the numbers of a list of triangles, one
-- after the other.
abbrev pub flatten : List Triangle → List ℕ
flatten [] = []
flatten (triangle a b c ∷ ts) = a ∷ b ∷ c ∷ flatten ts

-- "Indices here are local; the set adds the body's first vertex."
abbrev pub shift : ℕ → List Triangle → List Triangle
shift first [] = []
shift first (triangle a b c ∷ ts) = triangle (first + a) (first + b) (first + c) ∷ shift first ts

-- "The two triangles of a quad come as two rows of three."
abbrev pub rows : List Triangle → List (List ℕ)
rows [] = []
rows (triangle a b c ∷ ts) = (a ∷ b ∷ c ∷ []) ∷ rows ts
