-- A body of a refused shape is left alone. Assumes nothing.
use Rattle.std.proofs.Common.{sym, length}
use Rattle.bodies.proofs.Drawable.{not-shaped}
use Rattle.bodies.proofs.vertices.write_vertices.Goals as goal

pub returns-in_default-clause-answer : goal.returns-in_default-clause-answer
returns-in_default-clause-answer c = let a = c.args in
    sym (not-shaped a.description a.curve.now (length a.out.now) c.in_default.ensures.answer)
