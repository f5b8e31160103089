-- The direction of step j of octant o is a pair of the table of an eighth, with its numbers
-- exchanged or negated as the octant says. So the scores of the steps in an octant are sums over
-- that table. Assumes nothing.
use Rattle.std.proofs.Common.{◌≡◌, refl, sym, ap, ◌∙◌, Bool, true, false, not, cond, List, ℕ, ◌+◌, ◌-◌, ◌*◌, ◌/◌, ◌%◌, ◌<◌, arith, lt-ltb, eqb, Float}
use Rattle.std.specs.Float.{binary32}
use Rattle.std.specs.Float.Ieee.{neg}
use Rattle.float32.proofs.Signs.{mul-neg}
use Rattle.vec3.specs.Points.{plus, times}
use Rattle.vec3.specs.Turns.{fraction, part_of, in_octant, direction_of, turn_of}
use Rattle.vec3.specs.declared.turns.Direction.{Direction}
use Rattle.twists.specs.Twists.{forward, backwards, signed, twist_direction, score_of}
use Rattle.twists.specs.Eighth.{eighth_of, entry_at, Tabulates}
use Rattle.twists.specs.Scores.{product_sum, forward_score}

-- every entry is one of the table's
pub entry-within : (odd : Bool) (j : ℕ) → j < 512 → entry_at odd j < 513
entry-within false j h = omega arith
entry-within true j h = omega arith

abbrev is_odd : ℕ → Bool
is_odd o = not (eqb (o % 2) 0)

-- "y = r/n for even o, (n − r)/n for odd o"
part-entry : (even : Bool) (j : ℕ)
    → cond even (fraction (8 * j) 4096) (fraction (4096 - 8 * j) 4096) ≡ fraction (8 * entry_at (not even) j) 4096
part-entry true j = refl
part-entry false j =
    let e : 4096 - 8 * j ≡ 8 * (512 - j) = omega arith in
    ap (λ (r : ℕ). fraction r 4096) e

-- the pair of step j, as it stands in octant o
abbrev step_pair : ℕ → ℕ → Direction
step_pair o j = in_octant o (eighth_of (entry_at (is_odd o) j)).cos (eighth_of (entry_at (is_odd o) j)).sin

direction-of-step : (o j : ℕ) → j < 512 → direction_of (512 * o + j) 4096 ≡ step_pair o j
unfolding direction_of part_of eighth_of
direction-of-step o j h =
    let octant : 8 * (512 * o + j) / 4096 ≡ o = omega arith in
    let rest : 8 * (512 * o + j) % 4096 ≡ 8 * j = omega arith in
    rw (octant, rest, part-entry (eqb (o % 2) 0) j)

pub turn-of-step : (o j : ℕ) → o < 8 → j < 512 → turn_of (512 * o + j) 4096 ≡ step_pair o j
unfolding turn_of
turn-of-step o j h l = rw (lt-ltb (512 * o + j) 4096 (omega arith)) (direction-of-step o j l)

-- the score of a direction
abbrev dot_with : Float → Float → Direction → Float
dot_with c0 s0 d = plus (times c0 d.cos) (times s0 d.sin)

score-of-step : (c0 s0 : Float) (o j : ℕ) → o < 8 → j < 512
    → score_of c0 s0 (forward (512 * o + j)) ≡ dot_with c0 s0 (step_pair o j)
unfolding score_of twist_direction signed
score-of-step c0 s0 o j h l = ap (dot_with c0 s0) (turn-of-step o j h l)

-- a backward step turns as far as the forward one, with its sine negated
pub score-backwards : (c0 s0 : Float) (steps : ℕ)
    → score_of c0 s0 (backwards steps) ≡ score_of c0 (neg s0) (forward steps)
unfolding score_of twist_direction signed
score-backwards c0 s0 steps =
    let d = turn_of steps 4096 in
    ap (λ (p : Float). plus (times c0 d.cos) p) (sym (mul-neg binary32 s0 d.sin))

-- The sums a·x + b·y are the scores of an octant's steps, where for each pair of the table the sum
-- is the score of the pair in that octant.
pub octant-sums : (c0 s0 a b : Float) (o octant : ℕ) (xs ys out : List Float) (x y : Direction → Float) → o < 8
    → octant ≡ o
    → Tabulates 513 (λ i. x (eighth_of i)) xs
    → Tabulates 513 (λ i. y (eighth_of i)) ys
    → ((d : Direction) → plus (times a (x d)) (times b (y d)) ≡ dot_with c0 s0 (in_octant o d.cos d.sin))
    → Tabulates 512 (λ j. product_sum a b xs ys (entry_at (is_odd o) j)) out
    → Tabulates 512 (forward_score c0 s0 octant) out
octant-sums c0 s0 a b o octant xs ys out x y h is reads-x reads_y same sums j l =
    let e = entry_at (is_odd o) j in
    let w = entry-within (is_odd o) j l in
    sums j l
    ∙ (λ i. plus (times a (reads-x e w i)) (times b (reads_y e w i)))
    ∙ same (eighth_of e)
    ∙ sym (score-of-step c0 s0 o j h l)
    ∙ ap (λ (k : ℕ). forward_score c0 s0 k j) (sym is)
