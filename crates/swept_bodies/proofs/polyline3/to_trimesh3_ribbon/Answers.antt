-- A pair at the first vertex, those between two segments, which the walk writes one after the other,
-- and a pair at the last vertex. Assumes nothing.
use Rattle.std.proofs.Common.{◌≡◌, refl, ap, ◌∙◌, rules, ℕ, ◌+◌, ◌*◌, ◌-◌, length, arith}
use borrow.Rule.Slice.PartMut.{put_mid}
use Rattle.laws.specs.Overwrite.{overwrite}
use Rattle.laws.proofs.Blocks.{length-blocks, ends-written}
use Rattle.laws.proofs.Lent.{lent-from}
use Rattle.surface.specs.declared.grid.Chain.{Chain}
use Rattle.surface.specs.declared.grid.Chain.TheVariants.{Open}
use Rattle.curve.specs.Segments.{vertex_of}
use Rattle.curve.specs.Framex.{carried_of}
use Rattle.curve.specs.declared.framex.Carried.{Carried}
use Rattle.swept_bodies.specs.Polyline3.{ribbon_pair, ribbon_part, ribbon_vertices}
use Rattle.swept_bodies.proofs.Axes.{frame-within, frame-last}
use Rattle.swept_bodies.proofs.Later.{later}
use Rattle.swept_bodies.proofs.polyline3.to_trimesh3_ribbon.Goals as goal

pub returns : goal.returns
returns c =
    let a = c.args in
    let spine = c.along-spine.result in
    let s = spine.segments in
    let is = c.along-spine.ensures in
    let m = s.count in
    let curve = s.curve.now in
    let part = ribbon_part a.width m curve in
    let place : m * 6 ≡ 6 + (m - 1) * 6 = omega arith in
    let on-open : (g : ℕ) → (carried_of s.chain m curve g).frame ≡ (carried_of Open m curve g).frame = λ g. ap (λ (chain : Chain). (carried_of chain m curve g).frame) is.chain in
    let first = ap (λ (b : Carried). b.frame) c.first-first.ensures ∙ on-open 0 ∙ frame-within m curve 0 spine.segment in
    let last = ap (λ (b : Carried). b.frame) c.walk-last.ensures.carried ∙ on-open (m - 1) ∙ frame-last m curve in
    let inner = c.walk-last.ensures.written part (record {
      sized = λ g. refl;
      front = λ g b lent left on p.
          let pair : left.now ≡ overwrite 0 (ribbon_pair (vertex_of curve g) b.frame a.width) lent.now = search rules in
          pair ∙ (λ i. overwrite 0 (ribbon_pair (vertex_of curve g)
          ((ap (λ (b : Carried). b.frame) on.same ∙ on-open g ∙ frame-within m curve g on.within) i) a.width) lent.now);
    }) in
    let before = put_mid 6 (length c.put_pair.new.out - 6) c.put_pair.new.out c.walk-last.new.out in
    ends-written m 6 ((m - 1) * 6) part a.out.now spine.segment refl
    (length-blocks 6 (m - 1) (λ k. part (k + 1)) (λ k h. refl)) c.put_pair.ensures
    (λ i. ribbon_pair (c.vertex.ensures i) (first i) a.width)
    (lent-from 6 (later (m - 1) part) c.put_pair.new.out inner)
    (lent-from (m * 6) (ribbon_pair c.vertex-2.result c.walk-last.result.frame a.width) before c.put_pair-2.ensures) place
    (λ i. ribbon_pair (c.vertex-2.ensures i) (last i) a.width)
    ∙ (λ i. overwrite 0 (ribbon_vertices a.width (is.count i) (is.same i)) a.out.now)
