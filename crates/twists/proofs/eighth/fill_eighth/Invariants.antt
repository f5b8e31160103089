-- Before each turn the first i entries stand.
use Rattle.std.proofs.Common.{◌≡◌, length}
use Rattle.twists.specs.Eighth.{Tabulates, cosine_at, sine_at}
use Rattle.twists.proofs.eighth.fill_eighth.Given as goal

abbrev pub invariant-loop-i : goal.invariant-loop-i
invariant-loop-i l = record {
  cos_sized : length l.cos ≡ 513;
  sin_sized : length l.sin ≡ 513;
  cosines : Tabulates l.i cosine_at l.cos;
  sines : Tabulates l.i sine_at l.sin;
}
