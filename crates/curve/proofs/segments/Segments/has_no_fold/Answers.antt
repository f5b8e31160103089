-- The answer of `all`, as the definition says it. Assumes nothing.
use Rattle.std.proofs.Common.{rules, tests, not, ℕ}
use Rattle.curve.specs.Checks.{is_fold, cosine_in, no_fold_in}
use Rattle.curve.proofs.Every.{every_checked}
use Rattle.curve.proofs.segments.Segments.has_no_fold.Goals as goal

pub returns : goal.returns
unfolding no_fold_in
returns c =
    let a = c.args in
    let permitted = λ (k : ℕ). not (is_fold (cosine_in a.self.chain a.self.count a.directions.now k)) in
    every_checked a.corners permitted c.all.ensures.ran (λ k b q called. search (rules, tests))
