-- The first frame, and the others, which the walk stores one after the other. Assumes nothing.
use Rattle.std.proofs.Common.{◌≡◌, refl, ap, ◌∙◌, rules, List, [], ◌∷◌, ℕ, ◌-◌}
use Rattle.laws.specs.Overwrite.{overwrite}
use Rattle.laws.proofs.Overwrite.{one_store}
use Rattle.laws.proofs.Blocks.{first-and-others}
use Rattle.laws.proofs.Lent.{lent-from}
use Rattle.vec3.specs.declared.points.Point.{Point}
use Rattle.curve.specs.Framex.{carried_of}
use Rattle.curve.specs.declared.framex.Carried.{Carried}
use Rattle.swept_bodies.proofs.Later.{later}
use Rattle.seamless_torus.proofs.frames.fill_frames.Goals as goal

stored : Carried → List Point
stored b = b.frame.ex ∷ []

pub returns-clause-written : goal.returns-clause-written
unfolding stored
returns-clause-written c =
    let a = c.args in
    let s = a.spine.now.segments in
    let m = s.count in
    let frame : ℕ → List Point = λ g. stored (carried_of s.chain m s.curve.now g) in
    let others = c.walk.ensures.written frame (record {
      sized = λ g. refl;
      front = λ g b lent left on p.
          let written : left.now ≡ overwrite 0 (stored b) lent.now = search (rules, one_store) in
          written ∙ ap (λ (b : Carried). overwrite 0 (stored b) lent.now) on.same;
    }) in
    let first = c.first-first in
    first-and-others m 1 frame a.frames.now a.spine.now.segment refl (one_store 0 first.result.frame.ex a.frames.now)
    (ap stored first.ensures)
    (lent-from 1 (later (m - 1) frame) _ others)
