-- The directions before i stand in the table.
use Rattle.std.proofs.Common.{◌≡◌, ℕ, ◌<◌, length}
use Rattle.vec3.specs.Points.{thrice, point_in}
use Rattle.vec3.specs.Turns.{turn_of}
use Rattle.ring_writers.proofs.turns.Turns.fill.Given as goal

abbrev pub invariant-loop-i : goal.invariant-loop-i
invariant-loop-i l = record {
  cosines : length l.self-inside.cosines ≡ 256;
  sines : length l.self-inside.sines ≡ 256;
  cosine : (k : ℕ) → k < l.i → point_in l.self-inside.cosines k ≡ thrice (turn_of k l.n).cos;
  sine : (k : ℕ) → k < l.i → point_in l.self-inside.sines k ≡ thrice (turn_of k l.n).sin;
}
