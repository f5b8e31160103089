-- Which of the best k the search picks: the first in the order of `twist_at`. Nothing is promised
-- of it but that it is one of the best, where the scores are finite: the law `chosen-best` of the
-- proofs, by which alone everything above this crate goes. Definitions only.
use Rattle.std.specs.Prelude.{ℕ, Float}
use Rattle.twists.specs.Twists.{forward, score_of, twist_at, scores_finite}
use Rattle.twists.specs.Leaders.{leads}
use Rattle.twists.specs.declared.leader.Leader.{Leader}
use Rattle.twists.specs.declared.twist.Twist.{Twist}
use Rattle.twists.specs.declared.best.Found.{Found}

-- the leader before the first score was tried, and after the first `count`
abbrev pub leader_at : Float → Float → ℕ → Leader
leader_at c0 s0 count =
    leads (λ i. score_of c0 s0 (twist_at i)) 0 count (record { place = 0; score = score_of c0 s0 (forward 0) })

unfoldable pub chosen_twist : Float → Float → Twist
chosen_twist c0 s0 = twist_at (leader_at c0 s0 4096).place

unfoldable pub found_for : Float → Float → Found
found_for c0 s0 = record { twist = chosen_twist c0 s0; finite = scores_finite c0 s0 }
