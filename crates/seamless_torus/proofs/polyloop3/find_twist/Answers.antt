-- The table is filled with the frames of the loop, what the ends are made of is the loop's, and the
-- search gives the twist for them. Assumes nothing.
use Rattle.std.proofs.Common.{ap, ◌∙◌, ◌-◌}
use Rattle.laws.specs.Overwrite.{overwrite}
use Rattle.surface.specs.declared.grid.Chain.{Chain}
use Rattle.curve.specs.Segments.{segment_direction}
use Rattle.curve.specs.Framex.{carried_of}
use Rattle.twists.specs.Chosen.{found_for}
use Rattle.twists.specs.declared.ends.Ends.{Ends}
use Rattle.seamless_torus.specs.Frames.{frames_in, ends_at}
use Rattle.seamless_torus.proofs.Tables.{written-frames, ends-of-loop}
use Rattle.seamless_torus.proofs.polyloop3.find_twist.Goals as goal

pub returns : goal.returns
returns c =
    let s = c.args.spine.now in
    let N = s.segments.count in
    let curve = s.segments.curve.now in
    let on = c.requires.on_loop in
    let filled = c.fill_frames-last.ensures in
    let written = filled.written ∙ ap (λ (chain : Chain). overwrite 0 (frames_in chain N curve) c.args.frames.now) on in
    let frames = written-frames N curve c.args.frames.now c.requires.frames_room written in
    let last = filled.carried ∙ ap (λ (chain : Chain). carried_of chain N curve (N - 1)) on in
    let along = c.direction.ensures ∙ ap (λ (chain : Chain). segment_direction chain N curve 0) on in
    let first = frames.frame 0 s.segment in
    let ends = c.ends_at.ensures ∙ (λ i. ends_at (last i) (along i) (record { ex = first i }))
    ∙ ends-of-loop N curve in
    record {
      found = c.search.ensures ∙ ap (λ (e : Ends). found_for e.c0 e.s0) ends;
      frame_table = frames;
    }
