-- Each turn of the loop writes the ring at one vertex after the one before: the frame there is the
-- carried one of the table, turned by its share of the twist. Assumes nothing.
use Rattle.std.proofs.Common.{◌≡◌, sym, ap, ◌∙◌, ℕ, ◌*◌, arith}
use Rattle.laws.proofs.Blocks.{one_more, all-written}
use Rattle.laws.proofs.Lent.{lent-from}
use Rattle.laws.proofs.Products.{row_within}
use Rattle.surface.specs.declared.grid.Chain.{Chain}
use Rattle.curve.specs.Segments.{segment_direction}
use Rattle.rings.specs.Axes.{axes_at}
use Rattle.rings.specs.Vertices.{torus_vertex}
use Rattle.ring_writers.proofs.Lengths.{length-ring}
use Rattle.swept_bodies.specs.Polyloop3.{axes_of}
use Rattle.swept_bodies.specs.Swept.{ring_about}
use Rattle.twists.specs.Twists.{twisted_frame}
use Rattle.seamless_torus.specs.Polyloop3.{smooth_frame}
use Rattle.seamless_torus.proofs.polyloop3.write_rings.Invariants.{ring_on}
use Rattle.seamless_torus.proofs.polyloop3.write_rings.Goals as goal
use Rattle.seamless_torus.proofs.polyloop3.write_rings.Goals.{After-at}

-- a turn's ring is within bounds
pub write_ring-requires : goal.write_ring-requires
write_ring-requires c =
    let N = c.args.sweep.now.spine.segments.count in
    let same = c.ring_floats-size.ensures.same in
    omega (
      arith,
      row_within c.loop-g.g N c.ring_floats-size.result c.loop-g-test.true,
      ap (λ (k : ℕ). N * k) same,
      same,
      c.requires.room,
      c.loop-g.auto.out,
    )

pub loop-g-preserved : goal.loop-g-preserved
unfolding smooth_frame axes_of
loop-g-preserved c =
    let g = c.loop-g.g in
    let a = c.args in
    let s = a.sweep.now in
    let N = s.spine.segments.count in
    let curve = s.spine.segments.curve.now in
    let n = s.turns.now in
    let frame = smooth_frame a.twist N curve in
    let direction = c.direction-ez.ensures
    ∙ ap (λ (chain : Chain). segment_direction chain N curve g) c.requires.on_loop in
    let ex = c.requires.frame_table.frame g c.loop-g-test.true in
    let turned = c.twisted-frame.ensures
    ∙ (λ i. twisted_frame (record { ex = ex i }) (direction i) (c.share.ensures i)) in
    let axes = c.at.ensures ∙ (λ i. axes_at (c.vertex.ensures i) (turned i) (direction i)) in
    one_more 0 g c.ring_floats-size.result (ring_on s a.twist) a.out.now
    (λ k h. length-ring (torus_vertex (axes_of N curve (frame k) k) s.radius) n ∙ sym c.ring_floats-size.ensures.same)
    c.loop-g.invariant (omega arith)
    (lent-from (g * c.ring_floats-size.result) (ring_about s.spine.segments.chain n s.radius c.at.result) c.loop-g.out
    c.write_ring.ensures)
    (λ i. ring_about (c.requires.on_loop i) n s.radius (axes i))

pub returns : goal.returns
returns c =
    let o = c.loop-g in
    let a = c.args in
    let e : o.g ≡ a.sweep.now.spine.segments.count = omega arith in
    all-written 0 (ring_on a.sweep.now a.twist) a.out.now o.invariant e
