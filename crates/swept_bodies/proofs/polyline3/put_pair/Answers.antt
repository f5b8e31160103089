-- Two points, one after the other. Assumes nothing.
use Rattle.std.proofs.Common.{refl, ap, ◌∙◌, ◌++◌}
use Rattle.laws.specs.Overwrite.{overwrite}
use Rattle.laws.proofs.Overwrite.{written_behind}
use Rattle.vec3.specs.Points.{coordinates, sum_of}
use Rattle.swept_bodies.proofs.polyline3.put_pair.Goals as goal

pub returns : goal.returns
returns c =
    let a = c.args in
    written_behind 0 (coordinates a.p) (coordinates c.add.result) a.out.now c.put_point.ensures refl
    c.put_point-2.ensures
    ∙ ap (λ x. overwrite 0 (coordinates a.p ++ coordinates x) a.out.now)
    (c.add.ensures ∙ ap (sum_of a.p) c.mul.ensures)
