-- Each turn reads one entry more. 64 counts below 2^32 do not wrap a usize. Assumes nothing.
use Rattle.std.proofs.Common.{◌≡◌, ◌*◌, ◌^◌, ◌≤◌}
use Rattle.set_table.proofs.Tables.{Summed}
use Rattle.set_table.proofs.table.read.Given as goal

abbrev pub invariant-loop-j : goal.invariant-loop-j
invariant-loop-j l =
    Summed l.table l.j l.totals × (l.totals.bodies ≡ l.j) × (l.totals.vertices ≤ l.j * 2 ^ 32) × (l.totals.triangles ≤ l.j * 2 ^ 32)
