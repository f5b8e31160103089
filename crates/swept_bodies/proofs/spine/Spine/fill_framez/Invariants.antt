-- Each turn of the loop stores one ez after the one before. Assumes nothing.
use Rattle.std.proofs.Common.{◌≡◌, List, [], ◌∷◌, ℕ, ◌-◌, Float}
use Rattle.laws.specs.Overwrite.{overwrite}
use Rattle.surface.specs.declared.grid.Chain.TheVariants.{Open}
use Rattle.vec3.specs.declared.points.Point.{Point}
use Rattle.swept_bodies.specs.Tables.{ez_between}
use Rattle.swept_bodies.proofs.Later.{later}
use Rattle.swept_bodies.proofs.spine.Spine.fill_framez.Given as goal

abbrev pub ez_at : ℕ → List Float → ℕ → List Point
ez_at m c g = ez_between Open m c g ∷ []

abbrev pub invariant-loop-g : goal.invariant-loop-g
invariant-loop-g l =
    let s = l.self.segments in
    l.out ≡ overwrite 1 (later (l.g - 1) (ez_at s.count s.curve.now)) l.initial.out
