-- The triangle lists, as document 01, 'Triangle lists', has them: n divisions round, m curve
-- segments, N curve vertices of a torus, S layers. Definitions only.
use Rattle.std.specs.Prelude.{List, [], ◌∷◌, ◌++◌, ℕ, ◌+◌, ◌*◌, ◌%◌}
use Rattle.laws.specs.Blocks.{blocks}
use Rattle.surface.specs.Triangles.{Triangle, triangle}

-- "Ring indices i and i + 1 wrap at n."
abbrev pub next : ℕ → ℕ → ℕ
next n i = (i + 1) % n

-- Capsule and closed cylinder: "vertex 0 the bottom pole, 1 + g·n + i ring g, n(S + 1) + 1 the
-- top pole".
abbrev pub ring : ℕ → ℕ → ℕ → ℕ
ring n g i = 1 + g * n + i

-- "First n bottom triangles (0, ring 0 at i, at i + 1)."
abbrev pub bottom_triangles : ℕ → List Triangle
bottom_triangles n = blocks n (λ i. triangle 0 (ring n 0 i) (ring n 0 (next n i)) ∷ [])

-- "Then each layer g and each i, with p1 = (g, i), p2 = (g, i + 1), p3 = (g + 1, i + 1),
-- p4 = (g + 1, i): (p3, p2, p1), (p4, p3, p1)."
abbrev pub layer_quad : ℕ → ℕ → ℕ → List Triangle
layer_quad n g i =
    let p1 = ring n g i in
    let p2 = ring n g (next n i) in
    let p3 = ring n (g + 1) (next n i) in
    let p4 = ring n (g + 1) i in
    triangle p3 p2 p1 ∷ triangle p4 p3 p1 ∷ []

abbrev pub layers : ℕ → ℕ → List Triangle
layers n S = blocks S (λ g. blocks n (λ i. layer_quad n g i))

-- "Then (top, (S, i + 1), (S, i))."
abbrev pub top_triangles : ℕ → ℕ → List Triangle
top_triangles n S = blocks n (λ i. triangle (n * (S + 1) + 1) (ring n S (next n i)) (ring n S i) ∷ [])

abbrev pub closed_triangles : ℕ → ℕ → List Triangle
closed_triangles n S = bottom_triangles n ++ (layers n S ++ top_triangles n S)

-- the vertex (g, i) of torus and tube
abbrev pub vertex : ℕ → ℕ → ℕ → ℕ
vertex n g i = g * n + i

-- Torus: "a = (g, i), b = (g, i + 1), and ring g + 1 wrapping at N with d = (g + 1, i),
-- e = (g + 1, i + 1): (a, b, d), (e, d, b)".
abbrev pub torus_quad : ℕ → ℕ → ℕ → ℕ → List Triangle
torus_quad n N g i =
    let a = vertex n g i in
    let b = vertex n g (next n i) in
    let d = vertex n (next N g) i in
    let e = vertex n (next N g) (next n i) in
    triangle a b d ∷ triangle e d b ∷ []

abbrev pub torus_triangles : ℕ → ℕ → List Triangle
torus_triangles n N = blocks N (λ g. blocks n (λ i. torus_quad n N g i))

-- Tube: "(a, e, b), (a, d, e), no wrap along the curve".
abbrev pub tube_quad : ℕ → ℕ → ℕ → List Triangle
tube_quad n g i =
    let a = vertex n g i in
    let b = vertex n g (next n i) in
    let d = vertex n (g + 1) i in
    let e = vertex n (g + 1) (next n i) in
    triangle a e b ∷ triangle a d e ∷ []

abbrev pub tube_triangles : ℕ → ℕ → List Triangle
tube_triangles n m = blocks m (λ g. blocks n (λ i. tube_quad n g i))

-- Ribbon: "for j from 0: (2j, 2j + 1, 2j + 2), (2j + 1, 2j + 3, 2j + 2)".
abbrev pub ribbon_quad : ℕ → List Triangle
ribbon_quad j = triangle (2 * j) (2 * j + 1) (2 * j + 2) ∷ triangle (2 * j + 1) (2 * j + 3) (2 * j + 2) ∷ []

abbrev pub ribbon_triangles : ℕ → List Triangle
ribbon_triangles m = blocks m ribbon_quad
