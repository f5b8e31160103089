-- Each turn of the loop carries the frame one segment on and lets one part be written after the one
-- before. Assumes nothing.
use Rattle.std.proofs.Common.{◌≡◌, ◌-◌}
use Rattle.curve.specs.Framex.{carried_of}
use Rattle.swept_bodies.specs.Walks.{Written}
use Rattle.swept_bodies.proofs.spine.Spine.walk.Given as goal

abbrev pub invariant-loop-g : goal.invariant-loop-g
invariant-loop-g g l =
    let s = l.self.segments in
    record {
      written : Written s l.g l.size l.initial.out l.out (goal.F-post g l.write);
      carried : l.carried ≡ carried_of s.chain s.count s.curve.now (l.g - 1);
    }
