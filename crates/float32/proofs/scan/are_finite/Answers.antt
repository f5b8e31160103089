-- Both answers together are that of the whole slice: the blocks' is looked at where the rest's is
-- true, and where the rest's is false it does not matter.
use Rattle.std.proofs.Common.{refl, sym, ◌∙◌}
use Rattle.float32.proofs.BlockScan.{scanned}
use Rattle.float32.proofs.scan.are_finite.Goals as goal

pub returns-else-is_empty : goal.returns-else-is_empty
returns-else-is_empty c =
    let cut = c.as_chunks.ensures in
    let tried = sym c.if-is_each_finite.true ∙ c.is_each_finite.ensures in
    scanned c.args.values.now cut.front cut.back c.are_blocks_finite.ensures tried

pub returns-else-is_each_finite : goal.returns-else-is_each_finite
returns-else-is_each_finite c =
    let cut = c.as_chunks.ensures in
    let fails = c.if-is_each_finite.false in
    fails ∙ scanned c.args.values.now cut.front cut.back refl (sym fails ∙ c.is_each_finite.ensures)
