-- Each turn of the loop writes one ring after those before it.
use Rattle.std.proofs.Common.{◌≡◌, List, ℕ, Float}
use Rattle.laws.specs.Overwrite.{overwrite}
use Rattle.laws.specs.Blocks.{blocks}
use Rattle.rings.specs.Vertices.{ring_of, cap_vertex}
use Rattle.rings.specs.declared.caps.Cap.{Cap}
use Rattle.ring_writers.proofs.caps.write_cap.Given as goal

-- ring j of the cap
abbrev pub ring_at : Cap → ℕ → ℕ → List Float
ring_at cap n j = ring_of (cap_vertex cap.end cap.axes cap.radius cap.longitudes j) n

abbrev pub invariant-loop-j : goal.invariant-loop-j
invariant-loop-j l = l.out ≡ overwrite 0 (blocks l.j (ring_at l.cap l.turns)) l.initial.out
