-- What stands at the first vertex, the rings between two segments, which the walk writes one after
-- the other, and what stands at the last vertex. Assumes nothing.
use Rattle.std.proofs.Common.{◌≡◌, sym, ap, ◌∙◌, rules, List, ℕ, ◌+◌, ◌*◌, ◌-◌, Float, length}
use borrow.Rule.Slice.PartMut.{put_mid}
use Rattle.laws.specs.Overwrite.{overwrite}
use Rattle.laws.proofs.Overwrite.{three-written}
use Rattle.laws.proofs.Lent.{lent-from}
use Rattle.surface.specs.declared.caps.End.TheVariants.{Bottom, Top}
use Rattle.vec3.specs.Points.{point_in}
use Rattle.curve.specs.Segments.{vertex_of}
use Rattle.rings.specs.Axes.{axes_at}
use Rattle.rings.specs.declared.axes.Axes.{Axes}
use Rattle.swept_bodies.specs.Swept.{ring_about, axes_on, axes_first, axes_inner, axes_last, inner_rings, end_part, end_floats, swept_vertices}
use Rattle.swept_bodies.proofs.Later.{later}
use Rattle.swept_bodies.proofs.Lengths.{length-about, length-first, length-inner}
use Rattle.swept_bodies.proofs.ending.Ending.write_swept.Goals as goal

pub returns : goal.returns
unfolding swept_vertices
returns c =
    let a = c.args in
    let s = a.sweep.now in
    let p = s.spine.segments in
    let n = s.turns.now in
    let m = p.count in
    let curve = p.curve.now in
    let at = c.first_floats-inner.result in
    let size = c.ring_floats-size.result in
    let same = c.ring_floats-size.ensures.same in
    let place = at + (m - 1) * size in
    let first = end_part a.self Bottom p.chain n s.radius in
    let last = end_part a.self Top p.chain n s.radius in
    let ring : ℕ → List Float = λ g. ring_about p.chain n s.radius (axes_inner p.chain m curve g) in
    let inner = c.walk-last.ensures.written ring (record {
      sized = λ g. length-about p.chain n s.radius (axes_inner p.chain m curve g) ∙ sym same;
      front = λ g b lent left on q.
          let on-table = axes_at (vertex_of curve g) b.frame (point_in a.ez.now g) in
          let written : left.now ≡ overwrite 0 (ring_about p.chain n s.radius on-table) lent.now = search rules in
          written ∙ (λ i. overwrite 0 (ring_about p.chain n s.radius
          (axes_at (vertex_of curve g) (on.same i).frame (c.requires.ez_table.between g on.later on.within i))) lent.now);
    }) in
    let before = put_mid at (length c.write.new.out - at) c.write.new.out c.walk-last.new.out in
    three-written (first (axes_first p.chain m curve)) (inner_rings p.chain n s.radius m curve)
    (last (axes_last p.chain m curve)) a.out.now
    (c.write.ensures ∙ ap (λ (b : Axes). overwrite 0 (first b) a.out.now)
    (c.axes_on.ensures ∙ ap (axes_on curve 0) c.first-first.ensures))
    (length-first a.self p.chain n s.radius (axes_first p.chain m curve) ∙ ap (end_floats a.self Bottom) (sym same)
    ∙ sym c.first_floats-inner.ensures)
    (lent-from at (later (m - 1) ring) c.write.new.out inner)
    (length-inner p.chain n s.radius m curve ∙ ap (λ (k : ℕ). (m - 1) * k) (sym same))
    (lent-from place (last c.axes_on-2.result) before c.write-2.ensures
    ∙ ap (λ (b : Axes). overwrite place (last b) before) (c.axes_on-2.ensures ∙ ap (axes_on curve m) c.walk-last.ensures.carried))
