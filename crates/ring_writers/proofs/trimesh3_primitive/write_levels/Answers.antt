-- Each turn of the loop writes one ring after those before it.
use Rattle.std.proofs.Common.{refl, ap, ◌∙◌, ℕ, ◌+◌, ◌*◌, arith}
use Rattle.laws.proofs.Blocks.{one_more}
use Rattle.laws.proofs.Lent.{lent-from}
use Rattle.laws.proofs.Products.{row_within}
use Rattle.vec3.specs.Turns.{whole}
use Rattle.rings.specs.Vertices.{level_vertex}
use Rattle.ring_writers.specs.ClosedCylinder.{cylinder_ring}
use Rattle.ring_writers.proofs.Lengths.{length-ring}
use Rattle.ring_writers.proofs.trimesh3_primitive.write_levels.Goals as goal

pub write_level-requires : goal.write_level-requires
write_level-requires c =
    let rings = c.args.layers + 1 in
    let same = c.ring_floats.ensures.same in
    omega (
      arith,
      row_within c.loop-g.g rings c.ring_floats.result c.loop-g-test.true,
      ap (λ (size : ℕ). rings * size) same,
      same,
    )

pub loop-g-preserved : goal.loop-g-preserved
unfolding whole
loop-g-preserved c =
    let l = c.loop-g in
    let a = c.args in
    let n = a.turns.now in
    one_more 0 l.g (n * 3) (cylinder_ring a.radius a.low a.height a.layers n) a.out.now
    (λ k h. length-ring (level_vertex a.radius a.low a.height a.layers k) n) l.invariant
    (ap (λ (size : ℕ). l.g * size) c.ring_floats.ensures.same ∙ omega arith)
    (lent-from (l.g * c.ring_floats.result) (cylinder_ring a.radius a.low a.height a.layers n l.g) l.out c.write_level.ensures)
    refl
