-- `float32::roots::root_of_small` meets its contract: the pattern is how many of the smallest
-- value there are. Assumes nothing.
use Rattle.std.proofs.Common.{◌≡◌, sym, ap, ◌∙◌, ℕ, ◌+◌, ◌-◌, ◌*◌, ◌/◌, ◌%◌, ◌^◌, ◌≤◌, mod-eq_of_lt, pos_of_ne-zero, arith}
use Rattle.std.specs.Int.Count.{count_leading_zeros}
use Rattle.std.specs.Float.{binary32}
use Rattle.std.specs.Float.Ieee.{of_bits}
use Rattle.std.proofs.lemmas.Float.{not_nan_f32_bits}
use Rattle.float32.specs.Root.{root_of}
use Rattle.float32.proofs.Patterns.{small-value}
use Rattle.float32.proofs.Shift.{Shifted, shifted}
use Rattle.float32.proofs.roots.root_of_small.Goals as goal
use Rattle.float32.proofs.roots.root_of_small.Goals.{Else-b-eq0}

pub returns-then-b-eq0 : goal.returns-then-b-eq0
unfolding root_of of_bits
returns-then-b-eq0 c = rw c.if-b-eq0.true

-- shifted up by so many places it has 24 digits
at_place : (c : Else-b-eq0)
    → (8 ≤ count_leading_zeros 32 c.args.b) × Shifted c.args.b (count_leading_zeros 32 c.args.b - 8)
at_place c = shifted c.args.b (pos_of_ne-zero c.if-b-eq0.false) c.requires

pub overflow_sub-z : goal.overflow_sub-z
overflow_sub-z c = (at_place (goal.at.overflow_sub-z c).Else-b-eq0).0

pub root_bits-requires : goal.root_bits-requires
root_bits-requires c =
    let h = (at_place (goal.at.root_bits-requires c).Else-b-eq0).1 in
    let f = h.few in
    let l = h.low in
    let u = h.high in
    omega arith

pub returns : goal.returns
returns c =
    let b = c.args.b in
    let z = count_leading_zeros 32 b - 8 in
    let h = (at_place (goal.at.returns c).Else-b-eq0).1 in
    let u = h.high in
    let f = h.few in
    let e : b * 2 ^ z % 4294967296 ≡ b * 2 ^ z = mod-eq_of_lt (omega arith) in
    let p : 149 - z ≡ 24 - (z + 1) % 2 + ((126 - z) / 2 + (126 - z) / 2) = omega arith in
    c.root_bits.ensures.root-of (of_bits binary32 b) b (pos_of_ne-zero c.if-b-eq0.false) (small-value b c.requires)
    (h.value ∙ ap (λ (m : ℕ). m * 2 ^ (149 - z)) (sym e) ∙ ap (λ (x : ℕ). b * 2 ^ z % 4294967296 * 2 ^ x) p)

pub float_from_bits-result : goal.float_from_bits-result
float_from_bits-result c = not_nan_f32_bits _ (let u = c.root_bits.ensures.finite in omega arith)
