-- Each turn of the loop stores one raised number after the last. Assumes nothing.
use Rattle.std.proofs.Common.{◌≡◌, List, [], ◌∷◌, ℕ, ◌+◌, get_or}
use Rattle.laws.specs.Overwrite.{overwrite}
use Rattle.laws.specs.Blocks.{blocks}
use Rattle.surface.proofs.raise.copy_raised.Given as goal

-- number i, raised
abbrev pub here : ℕ → List ℕ → ℕ → List ℕ
here rise l i = (rise + get_or l i 0) ∷ []

abbrev pub invariant-loop-k : goal.invariant-loop-k
invariant-loop-k l = l.to ≡ overwrite 0 (blocks l.k (here l.rise l.from)) l.initial.to
