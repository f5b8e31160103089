-- The rings are written with the twist that was found and with the radius that goes with it, and
-- these two are the definition's. Assumes nothing.
use Rattle.std.proofs.Common.{ap, ◌∙◌}
use Rattle.laws.specs.Overwrite.{overwrite}
use Rattle.twists.specs.Chosen.{found_for}
use Rattle.twists.specs.declared.best.Found.{Found}
use Rattle.seamless_torus.specs.Polyloop3.{twist_of, ends_finite, drawn_radius, seamless_vertices}
use Rattle.seamless_torus.proofs.polyloop3.to_trimesh3_seamless_torus.Goals as goal

pub returns : goal.returns
unfolding found_for
returns c =
    let a = c.args in
    let is = c.along-spine.ensures in
    let found = c.find_twist-found.ensures.found in
    let radius = c.drawn_radius.ensures ∙ ap (λ (x : Found). drawn_radius a.r x.finite) found in
    c.write_rings.ensures
    ∙ (λ i. let s = c.along-spine.result.segments in
    overwrite 0 (seamless_vertices (found i).twist (c.fill.ensures i) (radius i) s.count s.curve.now) a.out.now)
    ∙ (λ i. let N = is.count i in let curve = is.same i in
    overwrite 0 (seamless_vertices (twist_of N curve) a.n (drawn_radius a.r (ends_finite N curve)) N curve) a.out.now)
