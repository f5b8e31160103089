-- What stands at the two ends of a capsule (document 01, 'Frames and vertices'): the poles and the
-- rings, whose vertices crates/rings/specs/Vertices.antt defines. Definitions only.
use Rattle.std.specs.Prelude.{List, ◌++◌, ℕ, Float}
use Rattle.laws.specs.Blocks.{blocks}
use Rattle.surface.specs.declared.caps.End.{End}
use Rattle.surface.specs.declared.caps.End.TheVariants.{Bottom, Top}
use Rattle.vec3.specs.Points.{coordinates}
use Rattle.rings.specs.Vertices.{ring_of, bottom_pole, top_pole, cap_vertex}
use Rattle.rings.specs.declared.axes.Axes.{Axes}

-- "Bottom rings j below L", "Top rings"
abbrev pub cap_rings : End → Axes → Float → ℕ → ℕ → List Float
cap_rings end a r L n = blocks L (λ j. ring_of (cap_vertex end a r L j) n)

-- the bottom pole and then the bottom rings; the top rings and then the top pole
abbrev pub end_vertices : End → Axes → Float → ℕ → ℕ → List Float
end_vertices Bottom a r L n = coordinates (bottom_pole a r) ++ cap_rings Bottom a r L n
end_vertices Top a r L n = cap_rings Top a r L n ++ coordinates (top_pole a r)
