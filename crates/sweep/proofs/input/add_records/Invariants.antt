-- The records that were read so far are the front of the input, and were all added. The range of
-- the loop is its measure.
-- Assumes nothing.
use Rattle.sweep.specs.Set.{held}
use Rattle.sweep.proofs.AfterRecords.{SoFar}
use Rattle.sweep.proofs.input.add_records.Given as goal

abbrev pub invariant-loop-count : goal.invariant-loop-count
invariant-loop-count g l =
    SoFar (g.R.Read.remaining l.fn.input) (g.R.Read.remaining l.input) l.count (held l.fn.set) (held l.set)
