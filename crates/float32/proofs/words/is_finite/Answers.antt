-- Only the infinities and a NaN do not lie between the infinities. Assumes nothing.
use Rattle.std.proofs.Common.{◌≡◌, refl, sym, ◌∙◌, true, false, Float}
use Rattle.std.specs.Float.{nan, inf, fin}
use Rattle.std.specs.Float.Ieee.{lt, of_bits}
use Rattle.std.specs.Float.Ieee.Scale.{finite}
use Rattle.float32.proofs.words.is_finite.Goals as goal

above : (x : Float) → lt (inf true) x ≡ true → lt x (inf false) ≡ finite x
unfolding lt
above nan h = refl
above (inf true) h = sym h
above (inf false) h = refl
above (fin s m e) h = refl

not-above : (x : Float) → lt (inf true) x ≡ false → false ≡ finite x
unfolding lt
not-above nan h = refl
not-above (inf s) h = refl
not-above (fin s m e) h = sym h

pub returns-then-x : goal.returns-then-x
unfolding of_bits
returns-then-x c = above c.args.x c.if-x.true

pub returns-else-x : goal.returns-else-x
unfolding of_bits
returns-else-x c = c.if-x.false ∙ not-above c.args.x c.if-x.false
