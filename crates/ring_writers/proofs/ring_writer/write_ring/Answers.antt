-- Each loop writes vertices after those before them.
use Rattle.std.proofs.Common.{ℕ, ◌≡◌, refl, ap, List, ◌+◌, ◌-◌, ◌*◌, Float, length, arith}
use borrow.Rule.Slice.PartMut.{put_mid}
use Rattle.laws.specs.Overwrite.{overwrite}
use Rattle.laws.specs.Parts.{part}
use Rattle.laws.specs.Blocks.{blocks}
use Rattle.laws.proofs.Blocks.{some_more, all-written, blocks-cong}
use Rattle.laws.proofs.Lent.{lent-from}
use Rattle.vec3.specs.Points.{coordinates}
use Rattle.vec3.specs.Turns.{turn_of}
use Rattle.curve.proofs.Points.{point_written}
use Rattle.rings.specs.Vertices.{vertex_on}
use Rattle.rings.specs.Rings.{ring_vertex}
use Rattle.ring_writers.proofs.ring_writer.write_ring.Goals as goal

-- four blocks of three floats, written to the front of what lies from p on
four_more : (i : ℕ) (f : ℕ → List Float) (t₀ : List Float) {t ys v : List Float} {p : ℕ}
    → ((j : ℕ) → length (f j) ≡ 3) → t ≡ overwrite 0 (blocks i f) t₀ → p ≡ 0 + i * 3
    → ys ≡ overwrite 0 v (part p (length t - p) t) → v ≡ blocks 4 (λ j. f (i + j))
    → put_mid p (length t - p) t ys ≡ overwrite 0 (blocks (i + 4) f) t₀
four_more i f t₀ {t = t} {v = v} {p = p} sized before place written is =
    some_more 0 i 4 3 f t₀ (λ j h. sized j) before place (lent-from p v t written) is

pub loop-block-preserved : goal.loop-block-preserved
loop-block-preserved c =
    let l = c.loop-block in
    let a = c.args in
    let vertex = vertex_on (ring_vertex a.ring) a.turns.now in
    let next : 4 * l.block + 4 ≡ 4 * (l.block + 1) = omega arith in
    all-written 0 vertex a.out.now
    (four_more (4 * l.block) vertex a.out.now (λ k. refl) l.invariant (omega arith) c.put_four.ensures
    (blocks-cong 4 _ _ (λ k h. ap coordinates (c.four.ensures k h))))
    next

pub loop-i-preserved : goal.loop-i-preserved
loop-i-preserved c =
    let l = c.loop-i in
    let a = c.args in
    point_written 0 l.i (λ (k : ℕ). ring_vertex a.ring (turn_of k a.turns.now)) a.out.now l.invariant (omega arith)
    c.put_point.ensures c.vertex.ensures
