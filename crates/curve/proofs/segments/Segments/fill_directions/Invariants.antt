-- Each turn of the loop writes one direction after those before it.
use Rattle.std.proofs.Common.{◌≡◌, [], ◌∷◌}
use Rattle.laws.specs.Overwrite.{overwrite}
use Rattle.laws.specs.Blocks.{blocks}
use Rattle.curve.specs.Segments.{segment_direction}
use Rattle.curve.proofs.segments.Segments.fill_directions.Given as goal

abbrev pub invariant-loop-k : goal.invariant-loop-k
invariant-loop-k l =
    l.out ≡ overwrite 0 (blocks l.k (λ k. segment_direction l.self.chain l.self.count l.self.curve.now k ∷ []))
    l.initial.out
