-- How a quad is cut into two triangles. Document 01, 'Triangle lists'. Definitions only.
use Rattle.std.specs.Prelude.{List, [], ◌∷◌, ℕ}
use Rattle.surface.specs.Triangles.{Triangle, triangle}
use Rattle.surface.specs.declared.quads.Split.{Split}
use Rattle.surface.specs.declared.quads.Split.TheVariants.{Capped, Torus, Tube, Ribbon}

-- The corners are a = (g, i), b = (g, i + 1), d = (g + 1, i), e = (g + 1, i + 1). For capsule and
-- closed cylinder the paper calls them p1, p2, p4 and p3: (p3, p2, p1), (p4, p3, p1). A ribbon's
-- are 2j, 2j + 1, 2j + 2 and 2j + 3.
abbrev pub quad_of : Split → ℕ → ℕ → ℕ → ℕ → List Triangle
quad_of Capped a b d e = triangle e b a ∷ triangle d e a ∷ []
quad_of Torus a b d e = triangle a b d ∷ triangle e d b ∷ []
quad_of Tube a b d e = triangle a e b ∷ triangle a d e ∷ []
quad_of Ribbon a b d e = triangle a b d ∷ triangle b e d ∷ []
