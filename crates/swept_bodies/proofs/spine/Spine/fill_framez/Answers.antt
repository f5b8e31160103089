-- Each turn of the loop stores one ez after the one before. Assumes nothing.
use Rattle.std.proofs.Common.{◌≡◌, refl, sym, ap, ◌∙◌, List, [], ◌∷◌, ℕ, ◌+◌, ◌-◌, arith}
use Rattle.laws.proofs.Overwrite.{one_store}
use Rattle.surface.specs.declared.grid.Chain.{Chain}
use Rattle.surface.specs.declared.grid.Chain.TheVariants.{Open}
use Rattle.vec3.specs.Points.{point_in}
use Rattle.vec3.specs.declared.points.Point.{Point}
use Rattle.curve.specs.Segments.{segment_direction}
use Rattle.curve.proofs.Points.{table-point}
use Rattle.rings.specs.Axes.{between_of}
use Rattle.swept_bodies.specs.Tables.{ez_between}
use Rattle.swept_bodies.proofs.Later.{one_later, all_later}
use Rattle.swept_bodies.proofs.spine.Spine.fill_framez.Invariants.{ez_at}
use Rattle.swept_bodies.proofs.spine.Spine.fill_framez.Goals as goal

pub loop-g-preserved : goal.loop-g-preserved
loop-g-preserved c =
    let l = c.loop-g in
    let g = l.g in
    let a = c.args in
    let s = a.self.now.segments in
    let direction : Chain → ℕ → _ = λ chain. segment_direction chain s.count s.curve.now in
    let ez = c.framez.ensures
    ∙ (λ i. between_of (c.direction.ensures i) (c.direction-in-loop-g.ensures i))
    ∙ ap (λ (chain : Chain). between_of (direction chain (g - 1)) (direction chain g)) c.requires.open in
    one_later 1 g 1 (ez_at s.count s.curve.now) a.out.now {p = g} (λ k. refl) (omega arith) l.invariant (omega arith)
    (one_store g c.framez.result l.out) (ap (λ (p : Point). p ∷ []) ez)

pub returns : goal.returns
returns c =
    let o = c.loop-g in
    let a = c.args in
    let s = a.self.now.segments in
    let curve = s.curve.now in
    let ez = ez_between Open s.count curve in
    let e : o.g ≡ s.count = omega arith in
    let whole = all_later 1 (ez_at s.count curve) a.out.now o.invariant e in
    record {
      room = omega (arith, o.auto.out, c.requires.room);
      between = λ g l h.
          let e : g - 1 + 1 ≡ g = omega arith in
          ap (λ (t : List Point). point_in t g) whole
          ∙ table-point 1 (s.count - 1) (λ k. ez (k + 1)) a.out.now (g - 1) {q = g}
          (omega (arith, c.requires.room)) (omega arith) (omega arith)
          ∙ ap ez e ∙ ap (λ (chain : Chain). ez_between chain s.count curve g) (sym c.requires.open);
    }
