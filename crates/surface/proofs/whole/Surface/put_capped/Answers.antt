-- Bottom cap, grid and top cap, each written after the last. Assumes nothing.
use Rattle.std.proofs.Common.{rules, ◌++◌, ◌≡◌, ℕ, sym, ap, ◌∙◌, ◌+◌, ◌-◌, ◌*◌, ◌^◌, ◌≤◌, arith, length}
use Rattle.laws.specs.Overwrite.{overwrite}
use Rattle.laws.proofs.Overwrite.{three-written}
use Rattle.laws.proofs.Lent.{lent-from}
use Rattle.surface.specs.Triangles.{flatten}
use Rattle.surface.specs.Whole.{chain_of, ring_size, grid_size, surface_grid}
use Rattle.surface.specs.Caps.{cap_triangles}
use Rattle.surface.specs.declared.caps.End.TheVariants.{Bottom, Top}
use Rattle.surface.proofs.Flatten.{flatten-three}
use Rattle.surface.proofs.Pieces.{length-cap, length-grid, bottom_of, capped-parts}
use Rattle.surface.proofs.Room.{capped_fits}
use Rattle.surface.proofs.whole.Surface.put_capped.Goals as goal
use Rattle.surface.proofs.whole.Surface.put_capped.Goals.{After-vertex_count}

-- what the surface's counts are
counts : (c : After-vertex_count) → let a = c.args in
    let s = a.self in
    (c.vertex_count.result ≡ grid_size s + 2)
    × (grid_size s ≡ s.rows * ring_size s + ring_size s)
    × (a.first + 1 + grid_size s ≤ 2 ^ 28)
    × (s.columns ≤ ring_size s)
    × (s.columns * 3 + s.rows * s.columns * 6 + s.columns * 3 ≤ length a.out.now)
counts c = let a = c.args in
    let f = capped_fits a.self a.first (length a.out.now) c.requires.room c.requires.capped in
    (omega arith, f.1, f.2, f.3, f.4)

-- the top pole comes right after the rings, and the last ring right before it
pole : (c : After-vertex_count) → let a = c.args in
    a.first + c.vertex_count.result - 1 ≡ a.first + 1 + grid_size a.self
pole c = omega (arith, counts c)

rim : (c : After-vertex_count) → let a = c.args in
    let s = a.self in
    a.first + c.vertex_count.result - 1 - ring_size s ≡ a.first + 1 + s.rows * ring_size s
rim c = omega (arith, counts c)

pub overflow_sub-pole : goal.overflow_sub-pole
overflow_sub-pole c = omega (arith, counts (goal.at.overflow_sub-pole c).After-vertex_count)

pub overflow_sub-rim : goal.overflow_sub-rim
overflow_sub-rim c = omega (arith, counts (goal.at.overflow_sub-rim c).After-vertex_count)

pub slice_bounds-write_grid-count : goal.slice_bounds-write_grid-count
slice_bounds-write_grid-count c =
    let f = counts (goal.at.slice_bounds-write_grid-count c).After-vertex_count in
    omega arith

pub slice_bounds-write_grid-start : goal.slice_bounds-write_grid-start
slice_bounds-write_grid-start c =
    let f = counts (goal.at.slice_bounds-write_grid-start c).After-vertex_count in
    search rules

pub slice_bounds-write_cap-count : goal.slice_bounds-write_cap-count
slice_bounds-write_cap-count c =
    let f = counts (goal.at.slice_bounds-write_cap-count c).After-vertex_count in
    search rules

pub slice_bounds-write_cap-start : goal.slice_bounds-write_cap-start
slice_bounds-write_cap-start c =
    let f = counts (goal.at.slice_bounds-write_cap-start c).After-vertex_count in
    search rules

pub write_cap-requires : goal.write_cap-requires
write_cap-requires c =
    let f = counts (goal.at.write_cap-requires c).After-vertex_count in
    record { rim-numbers = omega arith; within = omega arith }

pub write_grid-requires : goal.write_grid-requires
write_grid-requires c =
    let f = counts (goal.at.write_grid-requires c).After-vertex_count in
    record { numbers = omega arith; within = omega arith }

pub write_cap-requires-2 : goal.write_cap-requires-2
write_cap-requires-2 c =
    let f = counts (goal.at.write_cap-requires-2 c).After-vertex_count in
    record { rim-numbers = omega arith; within = omega arith }

pub returns : goal.returns
returns c = let m = (goal.at.returns c).After-vertex_count in
    let a = c.args in
    let s = a.self in
    let t₀ = a.out.now in
    let side = a.first + 1 in
    let to-rim = ap (λ (w : ℕ). a.first + c.vertex_count.result - 1 - w) c.ring_size.ensures ∙ rim m in
    let bottom = bottom_of s a.first in
    let grid = surface_grid s side in
    let top = cap_triangles Top s.columns (a.first + c.vertex_count.result - 1) (a.first + c.vertex_count.result - 1 - c.ring_size.result) in
    let room = length-grid s.split s.round s.columns (chain_of s.ending) s.rows side in
    three-written (flatten bottom) (flatten grid) (flatten top) t₀ c.write_cap.ensures
    (length-cap Bottom s.columns a.first side)
    (lent-from _ (flatten grid) _ c.write_grid.ensures)
    (omega (arith, room))
    (lent-from _ (flatten top) _ c.write_cap-2.ensures)
    ∙ ap (λ l. overwrite 0 l t₀) (flatten-three bottom grid top)
    ∙ (λ i. overwrite 0 (flatten (bottom ++ (grid ++ cap_triangles Top s.columns (pole m i) (to-rim i)))) t₀)
    ∙ ap (λ l. overwrite 0 (flatten l) t₀) (sym (capped-parts s a.first c.requires.capped))
