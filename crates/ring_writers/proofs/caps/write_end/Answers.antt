-- The pole, followed by the rings; the rings, followed by the pole. Assumes nothing.
use Rattle.std.proofs.Common.{refl, ◌*◌, zero-add}
use Rattle.laws.proofs.Overwrite.{written_behind}
use Rattle.laws.proofs.Lent.{lent-from}
use Rattle.vec3.specs.Points.{coordinates}
use Rattle.rings.specs.Vertices.{cap_pole}
use Rattle.ring_writers.specs.Caps.{cap_rings}
use Rattle.ring_writers.proofs.Lengths.{length-cap}
use Rattle.ring_writers.proofs.caps.write_end.Goals as goal

pub returns-in-Bottom : goal.returns-in-Bottom
returns-in-Bottom c =
    let a = c.args in
    let cap = a.cap in
    let rings = cap_rings cap.end cap.axes cap.radius cap.longitudes a.turns.now in
    let pole = coordinates (cap_pole cap.end cap.axes cap.radius) in
    let put = rw c.pole.ensures at c.put_point.ensures in
    let both = written_behind 0 pole rings a.out.now put refl (lent-from 3 rings c.put_point.new.out c.write_cap.ensures) in
    rw c.in-Bottom.is (rw c.in-Bottom.is at both)

pub returns-in-Top : goal.returns-in-Top
returns-in-Top c =
    let a = c.args in
    let cap = a.cap in
    let n = a.turns.now in
    let size = length-cap cap.end cap.axes cap.radius cap.longitudes n in
    let rings = cap_rings cap.end cap.axes cap.radius cap.longitudes n in
    let pole = coordinates (cap_pole cap.end cap.axes cap.radius) in
    let put = rw (c.pole-in-Top.ensures, c.ring_floats.ensures.same, ← zero-add (cap.longitudes * (n * 3)))
    at c.put_point-in-Top.ensures in
    let both = written_behind 0 rings pole a.out.now c.write_cap-in-Top.ensures size put in
    rw c.in-Top.is (rw c.in-Top.is at both)
