-- Each turn of the loop carries the frame one segment on and lets one part be written after the one
-- before. Assumes nothing.
use Rattle.std.proofs.Common.{sym, ap, ◌∙◌, subst, ◌≡◌, ℕ, ◌+◌, ◌-◌, ◌*◌, ◌≤◌, length, arith, refl, rules}
use Rattle.laws.proofs.Products.{row_within}
use Rattle.laws.proofs.Lent.{lent-from, length_rest}
use Rattle.curve.specs.Framex.{carried_of}
use Rattle.swept_bodies.specs.Walks.{CarriedOn}
use Rattle.swept_bodies.proofs.Axes.{carried_after}
use Rattle.swept_bodies.proofs.Later.{one_later, all_later}
use Rattle.swept_bodies.proofs.spine.Spine.walk.Goals as goal

pub write-requires : goal.write-requires
write-requires g c =
    let l = c.loop-g in
    let s = c.args.self.now.segments in
    let size = c.args.size in
    let at = (l.g - 1) * size in
    let on : CarriedOn s l.g c.next-carried.result = record {
      later = omega arith;
      within = c.loop-g-test.true;
      same = search (rules, carried_after);
    } in
    let room : size ≤ length l.out - at = omega (
      arith,
      l.auto.out,
      c.requires.room,
      row_within (l.g - 1) (s.count - 1) size (omega arith),
    ) in
    c.requires.write l.g c.next-carried.result _ on (subst (λ (k : ℕ). size ≤ k) (sym (length_rest at l.out)) room)

pub loop-g-preserved : goal.loop-g-preserved
loop-g-preserved g c =
    let l = c.loop-g in
    let s = c.args.self.now.segments in
    let at = (l.g - 1) * c.args.size in
    let next : l.g ≡ l.g + 1 - 1 = omega arith in
    let on : CarriedOn s l.g c.next-carried.result = record {
      later = omega arith;
      within = c.loop-g-test.true;
      same = search (rules, carried_after);
    } in
    record {
      written = λ part w. one_later 0 l.g c.args.size part c.args.out.now {p = at} w.sized (omega arith) (l.invariant.written part w)
          (omega arith)
          (lent-from at (part l.g) l.out (w.front l.g c.next-carried.result _ _ on c.write.ensures)) refl;
      carried = on.same ∙ ap (carried_of s.chain s.count s.curve.now) next;
    }

pub returns-clause-written : goal.returns-clause-written
returns-clause-written g c =
    let e : c.loop-g.g ≡ c.args.self.now.segments.count = omega arith in
    λ part w. all_later 0 part c.args.out.now (c.loop-g.invariant.written part w) e
