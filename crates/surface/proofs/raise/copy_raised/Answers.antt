-- Each turn of the loop stores one raised number after the last. Assumes nothing.
use Rattle.std.proofs.Common.{◌≡◌, refl, ◌+◌, ◌^◌, ◌<◌, arith, length, get_or}
use Rattle.std.proofs.lemmas.List.{length-map, get_or-map}
use Rattle.laws.proofs.Blocks.{store_more, all_stored}
use Rattle.surface.specs.Raise.{raised}
use Rattle.surface.proofs.Below.{below_at}
use Rattle.surface.proofs.raise.copy_raised.Goals as goal

pub overflow_add-to : goal.overflow_add-to
overflow_add-to c = let a = c.args in
    let k = c.loop-k.k in
    let h : k < length a.from.now = omega arith in
    let m : k < length (raised a.rise a.from.now) = omega (arith, length-map a.from.now (λ n. a.rise + n)) in
    omega (
      arith,
      get_or-map (λ n. a.rise + n) a.from.now k 0 0 h,
      below_at (2 ^ 28) (raised a.rise a.from.now) k c.requires.numbers m,
    )

pub loop-k-preserved : goal.loop-k-preserved
loop-k-preserved c = let a = c.args in
    let l = c.loop-k in
    store_more l.k (λ k. a.rise + get_or a.from.now k 0) a.to.now l.invariant refl

pub returns : goal.returns
returns c = let a = c.args in
    let end : c.loop-k.k ≡ length a.from.now = omega arith in
    all_stored (λ n. a.rise + n) a.from.now 0 a.to.now c.loop-k.invariant end
