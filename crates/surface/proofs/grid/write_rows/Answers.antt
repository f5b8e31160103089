-- The first row, and its copies. Assumes nothing.
use Rattle.std.proofs.Common.{take, ◌≡◌, sym, ap, ◌∙◌, subst, List, ℕ, ◌+◌, ◌*◌, ◌^◌, ◌≤◌, ◌<◌}
use Rattle.std.proofs.Common.{mul-le-mul_right, arith, length}
use Rattle.laws.specs.Overwrite.{overwrite}
use Rattle.laws.proofs.Overwrite.{overwrite-none}
use Rattle.laws.specs.Blocks.{blocks}
use Rattle.surface.specs.Triangles.{flatten}
use Rattle.surface.specs.Grid.{RowsFit, row_triangles, grid_triangles}
use Rattle.surface.specs.Whole.{ring_size}
use Rattle.surface.specs.Raise.{copy_of, Below}
use Rattle.surface.specs.declared.whole.Surface.{Surface}
use Rattle.surface.specs.declared.grid.Chain.TheVariants.{Open}
use Rattle.surface.proofs.Rows.{first_row, below_copy, first_read, rows_written}
use Rattle.surface.proofs.grid.write_rows.Goals as goal
use Rattle.surface.proofs.grid.write_rows.Goals.{After-write_row}

-- the numbers and the places are within bounds
room : (s : Surface) (rows base size : ℕ) → RowsFit s.round rows s.columns base size → 0 < rows
    → (base + (rows + 1) * ring_size s ≤ 2 ^ 28)
    × (1 * ring_size s ≤ rows * ring_size s)
    × (1 * s.columns ≤ rows * s.columns)
room s rows base size fits some =
    (fits.numbers some, mul-le-mul_right (ring_size s) some, mul-le-mul_right s.columns some)

pub returns-then-rows-eq0 : goal.returns-then-rows-eq0
returns-then-rows-eq0 c = let a = c.args in
    let s = a.s in
    let none : 0 ≡ a.rows = omega arith in
    sym (overwrite-none 0 a.out.now)
    ∙ ap (λ (m : ℕ). overwrite 0 (flatten (grid_triangles s.split Open m s.round s.columns a.base)) a.out.now) none

-- the first call writes the first row
written : (c : After-write_row) → let a = c.args in
    c.write_row.new.out ≡ overwrite 0 (first_row a.s.split a.s.round a.s.columns a.base) a.out.now
written c = let a = c.args in
    let s = a.s in
    c.write_row.ensures
    ∙ ap (λ (k : ℕ). overwrite 0 (flatten (row_triangles s.split s.round s.columns a.base (a.base + k))) a.out.now)
    c.ring_size-ring.ensures

-- and what the second copies is that row
copied : (c : After-write_row) → let s = c.args.s in
    copy_of c.ring_size-ring.result (take (s.columns * 6) c.write_row.new.out)
    ≡ copy_of (ring_size s) (first_row s.split s.round s.columns c.args.base)
copied c = let a = c.args in
    let s = a.s in
    let f = room s a.rows a.base (length a.out.now) c.requires (omega arith) in
    let there = first_read s.split s.round s.columns a.base a.out.now (written c) (omega arith) in
    λ i. copy_of (c.ring_size-ring.ensures i) (there i)

pub repeat_raised-requires : goal.repeat_raised-requires
repeat_raised-requires c = let w = (goal.at.repeat_raised-requires c).After-write_row in
    let a = c.args in
    let s = a.s in
    let f = room s a.rows a.base (length a.out.now) c.requires (omega arith) in
    let kept = c.write_row.auto.out in
    let rises : a.rows * c.ring_size-ring.result ≡ a.rows * ring_size s =
    ap (λ k. a.rows * k) c.ring_size-ring.ensures in
    record {
      some = omega arith;
      within = omega arith;
      rises = omega arith;
      numbers = λ k h. subst (λ (copy : ℕ → List ℕ). Below (2 ^ 28) (copy k)) (sym (copied w))
          (below_copy s.split s.round s.columns a.rows a.base k (2 ^ 28) h f.0);
    }

pub returns : goal.returns
returns c = let w = (goal.at.returns c).After-write_row in
    let a = c.args in
    let s = a.s in
    rows_written s.split s.round s.columns a.rows a.base a.out.now (omega arith) (written w)
    (c.repeat_raised.ensures
    ∙ ap (λ (copy : ℕ → List ℕ). overwrite 0 (blocks a.rows copy) c.write_row.new.out) (copied w))
