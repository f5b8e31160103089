-- Each turn of the loop writes copies of the first copies after them all. Assumes nothing.
use Rattle.std.proofs.Common.{◌≡◌, sym, ap, ◌∙◌, subst, List, ℕ, ◌+◌, ◌*◌, ◌^◌, ◌≤◌, ◌++◌, arith, length, take}
use Rattle.std.proofs.Common.{mul-le-mul_right, length-take-le}
use Rattle.laws.specs.Overwrite.{overwrite}
use Rattle.laws.specs.Blocks.{blocks}
use Rattle.surface.specs.Raise.{raised, copy_of, Below}
use Rattle.surface.proofs.Below.{below-blocks}
use Rattle.surface.proofs.Copies.{front-kept, copy-none, next-copies, copies-after}
use Rattle.surface.proofs.raise.repeat_raised.Goals as goal
use Rattle.surface.proofs.raise.repeat_raised.Goals.{After-split_at_mut-made}

pub loop-done-init : goal.loop-done-init
loop-done-init c = let a = c.args in
    let t₀ = a.out.now in
    (front-kept a.size t₀ ∙ ap (λ (r : List ℕ). overwrite 0 r t₀) (sym (copy-none a.rise (take a.size t₀))), omega arith, omega arith)

-- the copies of a turn have their room
room : (c : After-split_at_mut-made) → let a = c.args in
    let count = c.min-count.result in
    let done = c.loop-done.done in
    (count ≤ done)
    × ((done + count) * a.size ≤ length a.out.now)
    × (count * a.size ≤ done * a.size)
    × (a.size ≤ length a.out.now)
room c = let a = c.args in
    let all : c.loop-done.done + c.min-count.result ≤ a.times = omega arith in
    let some : c.min-count.result ≤ c.loop-done.done = omega arith in (
      some,
      omega (arith, mul-le-mul_right a.size all),
      mul-le-mul_right a.size some,
      omega (arith, mul-le-mul_right a.size c.requires.some),
    )

-- what a turn copies is the next copies
next : (c : After-split_at_mut-made) → let a = c.args in
    let done = c.loop-done.done in
    let count = c.min-count.result in
    raised (done * a.rise) (take (count * a.size) c.split_at_mut-made.result.0.now)
    ≡ blocks count (λ k. copy_of a.rise (take a.size a.out.now) (done + k))
next c = let a = c.args in
    let l = c.loop-done in
    let t₀ = a.out.now in
    let r = room c in
    ap (λ (m : List ℕ). raised (l.done * a.rise) (take (c.min-count.result * a.size) m)) c.split_at_mut-made.ensures.front
    ∙ next-copies a.size a.rise (take a.size t₀) t₀ (length-take-le a.size t₀ r.3) l.done c.min-count.result r.0 l.invariant.0 (omega arith)

pub copy_raised-requires : goal.copy_raised-requires
copy_raised-requires c = let m = (goal.at.copy_raised-requires c).After-split_at_mut-made in
    let a = c.args in
    let done = c.loop-done.done in
    let count = c.min-count.result in
    let r = room m in
    let f = copy_of a.rise (take a.size a.out.now) in
    record {
      within = omega (arith, length-take-le (count * a.size) c.split_at_mut-made.result.0.now (omega arith));
      numbers =
          subst (λ (r : List ℕ). Below (2 ^ 28) r) (sym (next m))
          (below-blocks (2 ^ 28) count (λ k. f (done + k)) (λ k h. c.requires.numbers (done + k) (omega arith)));
    }

pub loop-done-preserved : goal.loop-done-preserved
loop-done-preserved c = let m = (goal.at.loop-done-preserved c).After-split_at_mut-made in
    let a = c.args in
    let l = c.loop-done in
    let t₀ = a.out.now in
    let r = room m in
    let parts = c.split_at_mut-made.ensures in (
      ap (λ (r : List ℕ). r ++ c.copy_raised.new.to) parts.front
          ∙ copies-after a.size a.rise (take a.size t₀) t₀ (length-take-le a.size t₀ r.3) l.done c.min-count.result l.invariant.0
          (c.copy_raised.ensures
          ∙ ap (λ (r : List ℕ). overwrite 0 (raised (l.done * a.rise) (take (c.min-count.result * a.size) c.split_at_mut-made.result.0.now)) r) parts.back)
          (next m),
      omega arith,
      omega arith,
    )
