-- The capsule's vertices (document 01, 'Frames and vertices'): what stands at each vertex of its
-- curve. crates/ring_writers/specs/Caps.antt defines its ends. Definitions only.
use Rattle.std.specs.Prelude.{cond, List, ℕ, ◌+◌, ◌-◌, ◌*◌, ◌≤◌, eqb, Float}
use Rattle.laws.specs.Blocks.{blocks}
use Rattle.surface.specs.declared.caps.End.TheVariants.{Bottom, Top}
use Rattle.ring_writers.specs.Caps.{end_vertices}
use Rattle.swept_bodies.specs.Polyline3.{axes_of, tube_ring}

-- Part g, of 0 to m: "bottom pole .. Bottom rings .. Inner vertices 1 to m − 1 as the tube. Top
-- rings .. Top pole". A curve without a segment, which 10 refuses, has no part m of its own.
abbrev pub capsule_part : ℕ → ℕ → Float → ℕ → List Float → ℕ → List Float
capsule_part n L r m c g =
    cond (eqb g 0) (end_vertices Bottom (axes_of m c g) r L n)
    (cond (eqb g m) (end_vertices Top (axes_of m c g) r L n) (tube_ring n r m c g))

abbrev pub capsule_vertices : ℕ → ℕ → Float → ℕ → List Float → List Float
capsule_vertices n L r m c = blocks (m + 1) (capsule_part n L r m c)

-- what the capsule's writer asks of its sizes: a ring that the table of turns has room for, no more
-- longitudes than 21 permits, and room in the buffer
pub record CapsuleFits (m n L room : ℕ) : Type 0 where
  pub ring : n ≤ 256
  pub cap : L ≤ 256
  pub within : (2 * L + m - 1) * (n * 3) + 6 ≤ room
