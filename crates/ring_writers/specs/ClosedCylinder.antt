-- The closed cylinder's vertices (document 01, 'Frames and vertices'), of the levels and poles
-- that crates/rings/specs/Vertices.antt defines. Definitions only.
use Rattle.std.specs.Prelude.{Bool, cond, List, [], ◌++◌, ℕ, ◌+◌, eqb, Float}
use Rattle.std.specs.Float.{binary32}
use Rattle.std.specs.Float.Ieee.{of_bits, neg}
use Rattle.laws.specs.Blocks.{blocks}
use Rattle.vec3.specs.Points.{coordinates, plus, times}
use Rattle.rings.specs.Vertices.{ring_of, level_vertex, pole}

-- "low = −length·0.5 if centred, else +0". 3F000000 is 0.5.
unfoldable pub low_of : Bool → Float → Float
low_of centred length = cond centred (times (neg length) (of_bits binary32 0x3F00_0000)) (of_bits binary32 0)

-- "ring g", and the rings for g from 0 to S
abbrev pub cylinder_ring : Float → Float → Float → ℕ → ℕ → ℕ → List Float
cylinder_ring r low length S n g = ring_of (level_vertex r low length S g) n

abbrev pub cylinder_rings : Float → Float → Float → ℕ → ℕ → List Float
cylinder_rings r low length S n = blocks (S + 1) (cylinder_ring r low length S n)

-- Part g of S + 1: ring g, with the bottom pole before ring 0 and the top pole after ring S.
abbrev pub cylinder_part : Float → Float → ℕ → ℕ → Bool → ℕ → List Float
cylinder_part r length n S centred g =
    let low = low_of centred length in
    cond (eqb g 0) (coordinates (pole low)) []
    ++ (cylinder_ring r low length S n g ++ cond (eqb g S) (coordinates (pole (plus low length))) [])

abbrev pub cylinder_vertices : Float → Float → ℕ → ℕ → Bool → List Float
cylinder_vertices r length n S centred = blocks (S + 1) (cylinder_part r length n S centred)
