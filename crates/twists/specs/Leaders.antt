-- The first of the greatest scores, place by place. Definitions only.
use Rattle.std.specs.Prelude.{cond, List, ℕ, zero, suc, ◌+◌, Float, get_or}
use Rattle.std.specs.Float.{nan}
use Rattle.std.specs.Float.Ieee.{lt}
use Rattle.twists.specs.declared.leader.Leader.{Leader}

-- the leader after one more score
unfoldable pub led_once : ℕ → Float → Leader → Leader
led_once place score b = cond (lt b.score score) (record { place = place; score = score }) b

-- after the scores of `count` places from `base` on
abbrev pub leads : (ℕ → Float) → ℕ → ℕ → Leader → Leader
leads score base zero b = b
leads score base (suc count) b = led_once (base + count) (score count) (leads score base count b)

-- after the first `count` scores of a list
abbrev pub led_by : List Float → ℕ → ℕ → Leader → Leader
led_by scores base count b = leads (λ i. get_or scores i nan) base count b
