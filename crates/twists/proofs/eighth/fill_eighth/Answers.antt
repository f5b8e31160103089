-- Each turn of the loop writes one cosine and one sine after those before them.
use Rattle.std.proofs.Common.{◌≡◌, refl, ap, ◌∙◌, ℕ, ◌*◌, Float, pos, length-set, arith}
use Rattle.std.specs.Float.{binary32}
use Rattle.std.specs.Float.Ieee.{of_int, of_bits}
use Rattle.vec3.specs.Points.{over}
use Rattle.vec3.specs.Turns.{whole, fraction, within_octant}
use Rattle.vec3.specs.declared.turns.Direction.{Direction}
use Rattle.twists.specs.Eighth.{eighth_of, cosine_at, sine_at}
use Rattle.twists.proofs.Tables.{Tabulates-more}
use Rattle.twists.proofs.eighth.fill_eighth.Goals as goal

-- the bits of the code's 4096
steps-of-turn : of_bits binary32 0x4580_0000 ≡ whole 4096
unfolding whole of_int of_bits
steps-of-turn = refl

eighth-is : (i : ℕ) → within_octant (over (of_int binary32 (pos (8 * i))) (of_bits binary32 0x4580_0000)) ≡ eighth_of i
unfolding eighth_of fraction whole
eighth-is i = ap (λ (n : Float). within_octant (over (of_int binary32 (pos (8 * i))) n)) steps-of-turn

pub loop-i-preserved : goal.loop-i-preserved
loop-i-preserved c =
    let l = c.loop-i in
    let v = l.invariant in
    let is : c.within_octant-d.result ≡ eighth_of l.i = c.within_octant-d.ensures ∙ eighth-is l.i in
    record {
      cos_sized = length-set l.cos l.i c.within_octant-d.result.cos ∙ v.cos_sized;
      sin_sized = length-set l.sin l.i c.within_octant-d.result.sin ∙ v.sin_sized;
      cosines = Tabulates-more cosine_at l.i l.cos (omega arith) v.cosines (ap (λ (d : Direction). d.cos) is);
      sines = Tabulates-more sine_at l.i l.sin (omega arith) v.sines (ap (λ (d : Direction). d.sin) is);
    }
