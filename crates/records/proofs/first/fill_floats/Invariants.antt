-- Each turn stores the float of one more word. Assumes nothing.
use Rattle.std.proofs.Common.{◌≡◌, List, [], ◌∷◌, ℕ, Float, get_or}
use Rattle.std.specs.Float.{binary32}
use Rattle.std.specs.Float.Ieee.{of_bits}
use Rattle.laws.specs.Overwrite.{overwrite}
use Rattle.laws.specs.Blocks.{blocks}
use Rattle.records.proofs.first.fill_floats.Given as goal

abbrev pub float : List ℕ → ℕ → List Float
float words k = of_bits binary32 (get_or words k 0) ∷ []

abbrev pub invariant-loop-i : goal.invariant-loop-i
invariant-loop-i l = l.out ≡ overwrite 0 (blocks l.i (float l.words)) l.initial.out
