-- Each turn adds a float to each lane's sum, and after the last the sums tell of all blocks.
use Rattle.std.proofs.Common.{◌≡◌, refl, ◌∙◌, subst, ℕ, [], length, get_or, arith}
use Rattle.std.specs.Float.{nan}
use Rattle.laws.specs.Every.{every}
use Rattle.float32.specs.Lanes.{blocks_finite}
use Rattle.float32.proofs.ZeroSums.{Tells, tells-more}
use Rattle.float32.proofs.BlockScan.{lanes-told}
use Rattle.float32.proofs.scan.are_blocks_finite.Invariants.{here}
use Rattle.float32.proofs.scan.are_blocks_finite.Goals as goal

pub loop-block-preserved : goal.loop-block-preserved
loop-block-preserved c =
    let l = c.loop-block in
    let blocks = c.args.blocks.now in
    record {
      sized = omega arith;
      tell = λ k h.
          tells-more (here blocks k) l.block-index (get_or l.sums k nan) (get_or c.add_block.new.sums k nan)
          (get_or (get_or blocks l.block-index []) k nan) (l.invariant.tell k h) refl (c.add_block.ensures k h);
    }

pub returns : goal.returns
unfolding blocks_finite
returns c =
    let l = c.loop-block in
    let blocks = c.args.blocks.now in
    let all : l.block-index ≡ length blocks = omega arith in
    c.are_zeros.ensures
    ∙ lanes-told (λ k. every (length blocks) (here blocks k)) l.sums l.invariant.sized
    (λ k h. subst (λ (n : ℕ). Tells (every n (here blocks k)) (get_or l.sums k nan)) all (l.invariant.tell k h))
