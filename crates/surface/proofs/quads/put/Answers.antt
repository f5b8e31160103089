-- The front of the buffer, lent and written whole. Assumes nothing.
use Rattle.std.proofs.Common.{List, ℕ, ◌*◌, length, ap, ◌∙◌, arith}
use Rattle.laws.specs.Overwrite.{overwrite}
use Rattle.laws.proofs.Lent.{lent-part}
use Rattle.surface.proofs.quads.put.Goals as goal

pub returns : goal.returns
returns g c = let a = c.args in
    let copied = c.copy_from_slice in
    lent-part 0 (3 * g.row.N) copied.new.self a.out.now (omega (arith, ap length copied.ensures.after)) (omega arith)
    ∙ ap (λ (l : List ℕ). overwrite 0 l a.out.now) (copied.ensures.after ∙ c.as_flattened.ensures.value)
