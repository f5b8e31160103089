-- The caps of capsule and closed cylinder. Document 01, 'Triangle lists'. Definitions only.
use Rattle.std.specs.Prelude.{List, [], ◌∷◌, ℕ, ◌+◌, ◌*◌, ◌≤◌}
use Rattle.laws.specs.Blocks.{blocks}
use Rattle.surface.specs.Limits.{most_in_all}
use Rattle.surface.specs.Triangles.{Triangle, triangle}
use Rattle.surface.specs.Grid.{after_of}
use Rattle.surface.specs.declared.grid.Chain.TheVariants.{Closed}
use Rattle.surface.specs.declared.caps.End.{End}
use Rattle.surface.specs.declared.caps.End.TheVariants.{Bottom, Top}

-- "First n bottom triangles (0, ring 0 at i, at i + 1)." "Then (top, (S, i + 1), (S, i))."
abbrev pub cap_triangle : End → ℕ → ℕ → ℕ → Triangle
cap_triangle Bottom pole here next = triangle pole here next
cap_triangle Top pole here next = triangle pole next here

-- The cap between a pole and a ring of n vertices, whose first is rim.
abbrev pub cap_triangles : End → ℕ → ℕ → ℕ → List Triangle
cap_triangles end n pole rim = blocks n (λ i. cap_triangle end pole (rim + i) (rim + after_of Closed n i) ∷ [])

-- What a cap's writer asks: its vertices are numbered below `most_in_all`, and the buffer has room.
pub record CapFits (n rim room : ℕ) : Type 0 where
  pub rim-numbers : rim + n ≤ most_in_all
  pub within : n * 3 ≤ room
