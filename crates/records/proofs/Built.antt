-- Demand 3, as one equation of all that a clear and a list of additions give. Assumes nothing.
use Rattle.std.proofs.Common.{◌≡◌, List}
use Rattle.answers.specs.Answers.{accepted}
use Rattle.set_table.specs.Buffers.{Buffers, buffers, lengths_of}
use Rattle.shared_set.specs.Set.{clear_answer}
use Rattle.ledger.specs.Ledger.{empty, replies_to}
use Rattle.ledger.specs.Calls.{Call, tell, clear_and_add}
use Rattle.ledger.proofs.Demand3.{demand-3}
use Rattle.records.specs.Built.{ledger_set}

pub all-added : (s : Buffers) (list : List Call) → clear_answer s.table ≡ accepted tt
    → clear_and_add list s ≡ record { answers = replies_to (lengths_of s) empty (tell list); left = ledger_set s list }
all-added s list ok =
    let d = demand-3.clear s list ok in
    (λ j. record { answers = d.answers j; left = buffers (d.table j) (d.vertices j) (d.triangles j) })
