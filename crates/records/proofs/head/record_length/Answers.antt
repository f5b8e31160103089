-- A head that is too short has no word with the number of vertices. Assumes nothing.
use Rattle.std.proofs.Common.{◌∙◌, arith}
use Rattle.records.proofs.Lengths.{short_head, long_head}
use Rattle.records.proofs.head.record_length.Goals as goal

pub returns-in_err-vertices : goal.returns-in_err-vertices
returns-in_err-vertices c = c.from_residual.ensures ∙ short_head _ (c.in_err-vertices.ensures.lookup.3)

pub returns : goal.returns
returns c =
    let lookup = c.in_ok-vertices.ensures.lookup in
    c.then_some.ensures ∙ long_head _ (omega arith) (lookup.4 (omega arith) 0)
