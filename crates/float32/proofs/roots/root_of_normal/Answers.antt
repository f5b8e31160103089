-- `float32::roots::root_of_normal` meets its contract: the pattern's last 23 digits with a leading
-- one, at the place that the first ones give. Assumes nothing.
use Rattle.std.proofs.Common.{◌≡◌, ap, ◌∙◌, ℕ, ◌+◌, ◌-◌, ◌*◌, ◌/◌, ◌%◌, ◌^◌, ◌≤◌, mul-pos, arith, pow_pos}
use Rattle.std.specs.Float.{binary32}
use Rattle.std.specs.Float.Ieee.{of_bits}
use Rattle.std.proofs.lemmas.Float.{not_nan_f32_bits}
use Rattle.float32.proofs.Patterns.{normal-value, normal-places}
use Rattle.float32.proofs.roots.root_of_normal.Goals as goal

pub returns : goal.returns
returns c =
    let b = c.args.b in
    let e = b / 8388608 in
    let l : 8388608 ≤ b = c.requires.0 in
    let p : e + 148 ≡ 24 - e % 2 + ((e + 125) / 2 + (e + 125) / 2) = omega arith in
    c.root_bits.ensures.root-of (of_bits binary32 b) ((8388608 + b % 8388608) * 2 ^ (e - 1)) (mul-pos (omega arith) (pow_pos (e - 1)))
    (normal-value b l c.requires.1) (normal-places (b % 8388608) e (omega arith) ∙ ap (λ (x : ℕ). (b % 8388608 + 8388608) * 2 ^ x) p)

pub float_from_bits-result : goal.float_from_bits-result
float_from_bits-result c = not_nan_f32_bits _ (let u = c.root_bits.ensures.finite in omega arith)
