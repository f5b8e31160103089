-- Each turn makes the calls of one record more. Assumes nothing.
use Rattle.std.proofs.Common.{length}
use Rattle.set_table.specs.Buffers.{buffers}
use Rattle.records.proofs.Progress.{Progress}
use Rattle.records.proofs.building.add_all.Given as goal

abbrev pub invariant-loop-words : goal.invariant-loop-words
invariant-loop-words l =
    let o = l.initial in
    Progress l.records o.answers (buffers o.table o.vertices o.triangles) l.answers (buffers l.table l.vertices l.triangles) l.rest l.i

abbrev pub decreases-loop-words : goal.decreases-loop-words
decreases-loop-words l = length l.rest
