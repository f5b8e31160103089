-- A grid of quads, of which all lists of document 01, 'Triangle lists', are made. What is not
-- quoted stands for the words that all kinds share there: rings, quads between ring g and
-- ring g + 1, vertex i of ring g. Definitions only.
use Rattle.std.specs.Prelude.{List, ℕ, ◌+◌, ◌-◌, ◌*◌, ◌%◌, ◌≤◌, ◌<◌}
use Rattle.laws.specs.Blocks.{blocks}
use Rattle.surface.specs.Limits.{most_in_all}
use Rattle.surface.specs.Triangles.{Triangle}
use Rattle.surface.specs.Quads.{quad_of}
use Rattle.surface.specs.declared.quads.Split.{Split}
use Rattle.surface.specs.declared.grid.Chain.{Chain}
use Rattle.surface.specs.declared.grid.Chain.TheVariants.{Open, Closed}

-- The point after point i on a chain of n steps. "Ring indices i and i + 1 wrap at n."
abbrev pub after_of : Chain → ℕ → ℕ → ℕ
after_of Open n i = i + 1
after_of Closed n i = (i + 1) % n

-- How many points a chain of n steps has.
abbrev pub points_of : Chain → ℕ → ℕ
points_of Open n = n + 1
points_of Closed n = n

-- How many of n steps lead to the next number: all but a closed chain's last.
abbrev pub straight_of : Chain → ℕ → ℕ
straight_of Open n = n
straight_of Closed n = n - 1

-- A row of n quads between the rings whose first vertices are low and high.
abbrev pub row_triangles : Split → Chain → ℕ → ℕ → ℕ → List Triangle
row_triangles split round n low high =
    blocks n (λ i. quad_of split (low + i) (low + after_of round n i) (high + i) (high + after_of round n i))

-- m rows of n quads; vertex i of ring g is base + g * w + i, where a ring has w vertices.
abbrev pub grid_triangles : Split → Chain → ℕ → Chain → ℕ → ℕ → List Triangle
grid_triangles split along m round n base =
    let w = points_of round n in
    blocks m (λ g. row_triangles split round n (base + g * w) (base + after_of along m g * w))

-- What a row's writer asks: its vertices are numbered below `most_in_all`, and the buffer has room.
pub record RowFits (round : Chain) (n low high room : ℕ) : Type 0 where
  pub low-numbers : low + points_of round n ≤ most_in_all
  pub high-numbers : high + points_of round n ≤ most_in_all
  pub within : n * 6 ≤ room

-- What the writer of m rows asks whose rings follow one another. Where there is no row, there need
-- be no ring.
pub record RowsFit (round : Chain) (m n base room : ℕ) : Type 0 where
  pub numbers : 0 < m → base + (m + 1) * points_of round n ≤ most_in_all
  pub within : m * n * 6 ≤ room
