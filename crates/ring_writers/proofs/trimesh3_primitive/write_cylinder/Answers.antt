-- Pole, rings and pole, each written after the one before. Assumes nothing.
use Rattle.std.proofs.Common.{refl, sym, ap, ◌∙◌, List, ◌++◌, ◌+◌, Float}
use Rattle.laws.specs.Overwrite.{overwrite}
use Rattle.laws.proofs.Overwrite.{three-written}
use Rattle.laws.proofs.Lent.{lent-from}
use Rattle.vec3.specs.Points.{coordinates, plus}
use Rattle.rings.specs.Vertices.{level_vertex, pole}
use Rattle.ring_writers.specs.ClosedCylinder.{cylinder_rings}
use Rattle.ring_writers.proofs.Lengths.{length-rings, cylinder-parts}
use Rattle.ring_writers.proofs.trimesh3_primitive.write_cylinder.Goals as goal

pub returns : goal.returns
returns c =
    let a = c.args in
    let n = a.turns.now in
    let low = c.low-low in
    let rings = cylinder_rings a.radius low.result a.height a.layers n in
    let bottom = coordinates (pole low.result) in
    let top = coordinates (pole (plus low.result a.height)) in
    let size = length-rings (level_vertex a.radius low.result a.height a.layers) (a.layers + 1) n in
    let put = rw c.pole.ensures at c.put_point.ensures in
    let put-top = rw (c.pole-2.ensures, c.ring_floats.ensures.same) at c.put_point-2.ensures in
    let below = c.put_point.new.out in
    three-written bottom rings top a.out.now put refl (lent-from 3 rings below c.write_levels.ensures) size put-top
    ∙ ap (λ (y : Float). overwrite 0 (coordinates (pole y)
    ++ (cylinder_rings a.radius y a.height a.layers n ++ coordinates (pole (plus y a.height))))
    a.out.now) low.ensures
    ∙ ap (λ (l : List Float). overwrite 0 l a.out.now)
    (sym (cylinder-parts a.radius a.height n a.layers a.centred))
