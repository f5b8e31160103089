-- Each call so far was interrupted, and the next may be made.
use Rattle.std.proofs.Common.{List}
use Rattle.std.specs.List.{FoldsTo}
use Rattle.std.specs.declared.io.Error.{Error}
use Rattle.streams.specs.Again.{WasInterrupted}
use Rattle.streams.proofs.retry.Given as goal

abbrev pub invariant-loop : goal.invariant-loop
invariant-loop g l =
    goal.F-IsAlwaysCallable g l.call
    × (errors : List Error) × FoldsTo (WasInterrupted (goal.F-step g)) l.fn.call errors l.call
