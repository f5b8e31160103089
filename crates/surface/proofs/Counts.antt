-- The counts of a surface are small: it has at most 2 ^ 32 rings, of at most 2 ^ 16 vertices each.
-- Assumes nothing.
use Rattle.std.proofs.Common.{Bool, true, false, cond, ℕ, ◌+◌, ◌^◌, ◌≤◌, ◌<◌, mul-le-mul, arith}
use Rattle.surface.specs.Whole.{chain_of, is_capped, ring_count, ring_size, grid_size, surface_vertex_count}
use Rattle.surface.specs.declared.whole.Surface.{Surface}
use Rattle.surface.proofs.Chains.{points-bounds}

cond-le : (b : Bool) (n : ℕ) → cond b n 0 ≤ n
cond-le true n = omega arith
cond-le false n = omega arith

module _ (s : Surface) (rows< : s.rows < 2 ^ 32) (columns< : s.columns < 2 ^ 16) where
  pub few-points : grid_size s ≤ 2 ^ 48
  few-points =
      let along = points-bounds (chain_of s.ending) s.rows in
      let round = points-bounds s.round s.columns in
      let few-rings : ring_count s ≤ 2 ^ 32 = omega arith in
      let small-rings : ring_size s ≤ 2 ^ 16 = omega arith in
      mul-le-mul few-rings small-rings

  pub few_vertices : surface_vertex_count s ≤ 2 ^ 48 + 2
  unfolding surface_vertex_count
  few_vertices = omega (arith, few-points, cond-le (is_capped s.ending) 2)
