-- What stands in the body's stretch is what is scanned; zeros cover it. Assumes nothing.
use Rattle.std.proofs.Common.{◌≡◌, Bool, true, false, cond, sym, ap, ◌∙◌, List, ℕ, ◌+◌, ◌*◌, ◌≤◌, Float, length, arith}
use borrow.Rule.Slice.PartMut.{put_mid, put_same}
use Rattle.laws.specs.Parts.{part}
use Rattle.laws.proofs.Parts.{length_part}
use Rattle.laws.specs.Overwrite.{overwrite}
use Rattle.laws.proofs.Lent.{lent-part}
use Rattle.float32.specs.Scan.{all_finite}
use Rattle.float32.specs.Zeros.{zeros}
use Rattle.float32.proofs.ZeroCounts.{length-zeros}
use Rattle.kinds.specs.Kinds.{vertex_count}
use Rattle.shared_set.proofs.fitting.Fitting.check_finite.Goals as goal

module _ (at size : ℕ) (old : List Float) (room : at + size ≤ length old) where
  abbrev stretch : List Float
  stretch = part at size old

  abbrev none : List Float
  none = zeros (length stretch)

  -- what the scan answers, to whose end the code counts
  scanned : {k : ℕ} {finite : Bool} → finite ≡ all_finite (part at k old) → k ≡ size → finite ≡ all_finite stretch
  scanned h is = h ∙ ap (λ (n : ℕ). all_finite (part at n old)) is

  -- the stretch holds what it held
  kept : true ≡ all_finite stretch → old ≡ overwrite at (cond (all_finite stretch) stretch none) old
  kept fine =
      sym (put_same at size old)
      ∙ lent-part at size stretch old (length_part at size old room) room
      ∙ (λ i. overwrite at (cond (fine i) stretch none) old)

  -- as many zeros, written over the whole stretch
  zeroed : {k : ℕ} {new : List Float} → false ≡ all_finite stretch → k ≡ size → new ≡ zeros (length (part at k old))
      → put_mid at k old new ≡ overwrite at (cond (all_finite stretch) stretch none) old
  zeroed {k} bad is e =
      let sized = length-zeros (length stretch) ∙ length_part at size old room in
      ap (put_mid at k old) e
      ∙ ap (λ (i : ℕ). put_mid at i old (zeros (length (part at i old)))) is
      ∙ lent-part at size none old sized room
      ∙ (λ i. overwrite at (cond (bad i) stretch none) old)

pub returns-then-are_finite-clause-vertices_after : goal.returns-then-are_finite-clause-vertices_after
returns-then-are_finite-clause-vertices_after c =
    let at = 3 * c.args.self.totals.vertices in
    let size = 3 * vertex_count c.args.self.shaped.body in
    let V = c.args.vertices.now in
    kept at size V (omega arith)
    (scanned at size V (omega arith) c.if-are_finite.ensures (omega (arith, c.vertex_count.ensures)))

pub returns-clause-vertices_after : goal.returns-clause-vertices_after
returns-clause-vertices_after c =
    let at = 3 * c.args.self.totals.vertices in
    let size = 3 * vertex_count c.args.self.shaped.body in
    let V = c.args.vertices.now in
    zeroed at size V (omega arith)
    (scanned at size V (omega arith) c.if-are_finite.ensures (omega (arith, c.vertex_count.ensures)))
    (omega (arith, c.vertex_count.ensures)) c.fill_zeros.ensures
