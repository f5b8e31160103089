-- The answer of `all`, as the definition says it. Assumes nothing.
use Rattle.std.proofs.Common.{rules, tests, not, ℕ}
use Rattle.curve.specs.Segments.{segment_of}
use Rattle.curve.specs.Checks.{segment_refused, segments_permitted}
use Rattle.curve.proofs.Every.{every_checked}
use Rattle.curve.proofs.segments.Segments.are_permitted.Goals as goal

pub returns : goal.returns
unfolding segments_permitted
returns c =
    let s = c.args.self in
    let permitted = λ (k : ℕ). not (segment_refused (segment_of s.chain s.count s.curve.now k)) in
    every_checked s.count permitted c.all.ensures.ran (λ k b q called. search (rules, tests))
