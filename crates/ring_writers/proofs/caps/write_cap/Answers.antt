-- Each turn of the loop writes one ring after those before it.
use Rattle.std.proofs.Common.{ap, ◌∙◌, ℕ, ◌*◌, arith}
use Rattle.laws.proofs.Blocks.{one_more}
use Rattle.laws.proofs.Lent.{lent-from}
use Rattle.laws.proofs.Products.{row_within}
use Rattle.rings.specs.Vertices.{ring_of, cap_vertex}
use Rattle.rings.specs.Rings.{ring_vertex}
use Rattle.rings.proofs.RingVertices.{cap-ring}
use Rattle.ring_writers.proofs.Lengths.{length-ring}
use Rattle.ring_writers.proofs.caps.write_cap.Invariants.{ring_at}
use Rattle.ring_writers.proofs.caps.write_cap.Goals as goal

pub write_ring-requires : goal.write_ring-requires
write_ring-requires c =
    let L = c.args.cap.longitudes in
    let same = c.ring_floats.ensures.same in
    omega (arith, row_within c.loop-j.j L c.ring_floats.result c.loop-j-test.true, ap (λ (size : ℕ). L * size) same, same)

pub loop-j-preserved : goal.loop-j-preserved
loop-j-preserved c =
    let l = c.loop-j in
    let a = c.args in
    let n = a.turns.now in
    one_more 0 l.j (n * 3) (ring_at a.cap n) a.out.now
    (λ k h. length-ring (cap_vertex a.cap.end a.cap.axes a.cap.radius a.cap.longitudes k) n) l.invariant
    (ap (λ (size : ℕ). l.j * size) c.ring_floats.ensures.same ∙ omega arith)
    (lent-from (l.j * c.ring_floats.result) (ring_of (ring_vertex c.ring.result) n) l.out c.write_ring.ensures)
    (cap-ring a.cap.end a.cap.axes a.cap.radius a.cap.longitudes l.j n c.ring.ensures)
