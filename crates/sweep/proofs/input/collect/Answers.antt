-- The cleared set is what the records are added to. Assumes nothing.
use Rattle.std.proofs.Common.{rules}
use Rattle.ledger.specs.Calls.{cleared_set}
use Rattle.sweep.specs.Set.{held}
use Rattle.sweep.proofs.Behind.{all-read}
use Rattle.sweep.proofs.input.collect.Goals as goal

pub returns-clause-all : goal.returns-clause-all
returns-clause-all g c =
    let known = g.R.Read.remaining c.args.input.now in
    let r = c.add_records in
    all-read known r.result.stop r.result.count (cleared_set (held c.args.set.now)) (held r.new.set) (search rules)
