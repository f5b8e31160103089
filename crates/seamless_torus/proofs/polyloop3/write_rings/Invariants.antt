-- Each turn of the loop writes the ring at one vertex after the one before: the frame there is the
-- carried one of the table, turned by its share of the twist. Assumes nothing.
use Rattle.std.proofs.Common.{◌≡◌, List, ℕ, Float}
use Rattle.laws.specs.Overwrite.{overwrite}
use Rattle.laws.specs.Blocks.{blocks}
use Rattle.swept_bodies.specs.declared.swept.Sweep.{Sweep}
use Rattle.twists.specs.declared.twist.Twist.{Twist}
use Rattle.seamless_torus.specs.Polyloop3.{seamless_part}
use Rattle.seamless_torus.proofs.polyloop3.write_rings.Given as goal

-- the ring at vertex g
abbrev pub ring_on : Sweep → Twist → ℕ → List Float
ring_on s twist = seamless_part twist s.turns.now s.radius s.spine.segments.count s.spine.segments.curve.now

abbrev pub invariant-loop-g : goal.invariant-loop-g
invariant-loop-g l = l.out ≡ overwrite 0 (blocks l.g (ring_on l.sweep l.twist)) l.initial.out
