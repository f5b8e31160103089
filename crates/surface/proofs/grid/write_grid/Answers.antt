-- The rows whose rings follow one another, and after them the last row of a closed grid.
-- Assumes nothing.
use Rattle.std.proofs.Common.{◌≡◌, sym, ap, ◌∙◌, List, ℕ, ◌+◌, ◌*◌, mul_assoc}
use Rattle.std.proofs.Common.{arith}
use Rattle.laws.specs.Overwrite.{overwrite}
use Rattle.laws.proofs.Overwrite.{written_behind}
use Rattle.laws.proofs.Lent.{lent-from}
use Rattle.surface.specs.Triangles.{flatten}
use Rattle.surface.specs.Grid.{straight_of, row_triangles, grid_triangles}
use Rattle.surface.specs.Whole.{chain_of, ring_size}
use Rattle.surface.specs.declared.grid.Chain.TheVariants.{Open}
use Rattle.surface.proofs.Flatten.{flatten-append}
use Rattle.surface.proofs.Pieces.{length-grid}
use Rattle.surface.proofs.LastRow.{one_left}
use Rattle.surface.proofs.grid.write_grid.Goals as goal
use Rattle.surface.proofs.grid.write_grid.Goals.{After-ring_size, After-straight-ahead}

ahead : (c : After-straight-ahead)
    → let s = c.args.s in c.straight-ahead.result ≡ straight_of (chain_of s.ending) s.rows
ahead c = let s = c.args.s in
    c.straight-ahead.ensures ∙ ap (λ k. straight_of k s.rows) c.chain.ensures

-- how far the last ring lies past the first
to_last : (c : After-ring_size) → let s = c.args.s in
    let k = c.straight-ahead.result in
    k * c.ring_size.result ≡ k * ring_size s
to_last c = let k = c.straight-ahead.result in ap (λ (w : ℕ). k * w) c.ring_size.ensures

pub returns-then-ahead-s : goal.returns-then-ahead-s
returns-then-ahead-s c = let at_ring = (goal.at.returns-then-ahead-s c).After-ring_size in
    let a = c.args in
    let s = a.s in
    let k = c.straight-ahead.result in
    let t₁ = c.write_rows.new.out in
    let rows = grid_triangles s.split Open k s.round s.columns a.base in
    let row = row_triangles s.split s.round s.columns (a.base + k * ring_size s) a.base in
    let place : k * s.columns * 6 ≡ 0 + k * (s.columns * 6) = omega (arith, mul_assoc k s.columns 6) in
    written_behind 0 (flatten rows) (flatten row) a.out.now c.write_rows.ensures
    (length-grid s.split s.round s.columns Open k a.base)
    (lent-from (k * s.columns * 6) _ t₁ c.write_row.ensures
    ∙ (λ i. overwrite (place i) (flatten (row_triangles s.split s.round s.columns (a.base + to_last at_ring i) a.base)) t₁))
    ∙ ap (λ (l : List ℕ). overwrite 0 l a.out.now)
    (sym (flatten-append rows row)
    ∙ ap flatten (one_left s.split s.round s.columns (chain_of s.ending) s.rows a.base k
    (ahead (goal.at.returns-then-ahead-s c).After-straight-ahead) (omega arith)))
