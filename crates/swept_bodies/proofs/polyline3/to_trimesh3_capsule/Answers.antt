-- The floats of a capsule's three parts are those that it is asked room for. Assumes nothing.
use Rattle.std.proofs.Common.{◌≡◌, ap, ℕ, ◌+◌, ◌-◌, ◌*◌, arith}
use Rattle.curve.specs.Segments.{vertices_in}
use Rattle.swept_bodies.proofs.polyline3.to_trimesh3_capsule.Goals as goal

pub write_open-requires-clause-room : goal.write_open-requires-clause-room
write_open-requires-clause-room c =
    let a = c.args in
    let L = a.longitudes in
    let m = vertices_in a.curve.now - 1 in
    let segment = c.requires.open_curve.segment in
    let e : 2 * L + m - 1 ≡ L + (m - 1) + L = omega arith in
    rw c.fill.ensures (omega (arith, ap (λ (k : ℕ). k * (a.n * 3)) e, c.requires.capsule_fits.within))
