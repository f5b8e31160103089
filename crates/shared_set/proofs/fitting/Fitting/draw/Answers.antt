-- What is written to the front of the part that is lent stands in the buffer from the body's first
-- vertex on; the scan leaves it, or zeros. Assumes nothing.
use Rattle.std.proofs.Common.{◌≡◌, refl, sym, ap, ◌∙◌, Bool, true, false, cond, List, [], ◌∷◌, ◌++◌, ℕ, ◌+◌, ◌-◌, ◌*◌, ◌≤◌, Float, length}
use Rattle.std.proofs.lemmas.Result.{err_from_is_err_and}
use borrow.Rule.Slice.PartMut.{put_mid, put_same}
use Rattle.laws.specs.Parts.{part}
use Rattle.laws.specs.Overwrite.{overwrite, placed}
use Rattle.laws.proofs.Lent.{lent-from}
use Rattle.float32.specs.Scan.{all_finite}
use Rattle.float32.specs.Zeros.{zeros}
use Rattle.kinds.specs.Kinds.{vertex_count}
use Rattle.kinds.specs.declared.topology.Topology.{Topology}
use Rattle.curve.specs.Segments.{vertices_in}
use Rattle.answers.specs.Answers.{Answer, refused, accepted, test, not_finite}
use Rattle.answers.proofs.FirstOf.{accepted-by, passed-by, refused-by, other-than}
use Rattle.descriptions.specs.Descriptions.{topology_of}
use Rattle.descriptions.specs.Refusals.{ShapePermitted, fold_tests}
use Rattle.descriptions.specs.declared.description.Description.{Description}
use Rattle.set_table.specs.declared.totals.Totals.{Totals}
use Rattle.bodies.specs.Bodies.{vertices_of, floats_finite, twist_taken, drawn_of}
use Rattle.shared_set.specs.Bodies.{body_alone}
use Rattle.shared_set.specs.Additions.{Addition, taken, finite_tests}
use Rattle.shared_set.specs.Set.{vertices_after}
use Rattle.shared_set.proofs.Additions.{answer_by}
use Rattle.shared_set.proofs.Drawn.{scanned, scan-leaves-alone}
use Rattle.shared_set.proofs.fitting.Fitting.draw.Goals as goal

module _ (t : Totals) (d : Description) (c : List Float) (body : Topology) (old : List Float) (shape : ShapePermitted d (vertices_in c))
    (same : body ≡ topology_of d (vertices_in c)) (room : 3 * (t.vertices + vertex_count body) ≤ length old) where
  abbrev at : ℕ
  at = 3 * t.vertices

  abbrev asked : Addition
  asked = taken d c

  -- what is lent, and the buffer after something else was put there
  abbrev rest : List Float
  rest = part at (length old - at) old

  abbrev put : List Float → List Float
  put lent = put_mid at (length old - at) old lent

  abbrev stretch : List Float → List Float
  stretch l = part at (3 * vertex_count body) l

  -- a fold (13) leaves what was lent as it was
  folded : {k : ℕ} {lent : List Float} → refused k ≡ answer_by (fold_tests d c) → lent ≡ placed false (drawn_of d c) rest
      → put lent ≡ vertices_after (refused k) t (body_alone asked) old
  folded {k} folds kept =
      let other = other-than not_finite (fold_tests d c) tt (refl, tt) folds in
      ap put kept ∙ put_same at (length old - at) old
      ∙ (λ j. cond (sym other j) (overwrite at (zeros (length (body_alone asked).vertices)) old) old)

  module _ {lent : List Float} (written : lent ≡ placed true (drawn_of d c) rest) where
    -- the buffer holds what is written of the body
    holds : put lent ≡ overwrite at (drawn_of d c) old
    holds = lent-from at (drawn_of d c) old written

    -- what the scan of its stretch answers
    abbrev fine : Bool
    fine = all_finite (stretch (put lent))

    finite : fine ≡ floats_finite (twist_taken d c) d c
    finite = scanned d c body t.vertices old shape same room (ap (λ (l : List Float). all_finite (stretch l)) holds)

    answered : {x : Answer (Unit {0})} → accepted tt ≡ answer_by (fold_tests d c)
        → x ≡ answer_by (test not_finite fine ∷ []) → x ≡ answer_by (fold_tests d c ++ finite_tests asked)
    answered passes is =
        is ∙ (λ j. answer_by (test not_finite (finite j) ∷ []))
        ∙ passed-by (fold_tests d c) (finite_tests asked) tt (accepted-by (fold_tests d c) tt passes).1

    -- and what it leaves
    abbrev alone : List Float
    alone = vertices_of (twist_taken d c) d c

    left-by : (finite : Bool) → overwrite at (cond finite alone (zeros (length alone))) old
        ≡ vertices_after (answer_by (test not_finite finite ∷ [])) t (body_alone asked) old
    left-by true = refl
    left-by false = refl

    leaves : {x : Answer (Unit {0})} {left : List Float} → x ≡ answer_by (test not_finite fine ∷ [])
        → left ≡ overwrite at (cond fine (stretch (put lent)) (zeros (length (stretch (put lent))))) (put lent)
        → left ≡ vertices_after x t (body_alone asked) old
    leaves is e =
        e
        ∙ ap (λ (l : List Float). overwrite at (cond fine (stretch l) (zeros (length (stretch l)))) l) holds
        ∙ scan-leaves-alone d c body t.vertices old shape same room fine finite
        ∙ left-by fine
        ∙ ap (λ (x : Answer (Unit {0})). vertices_after x t (body_alone asked) old) (sym is)

pub returns-in_err-write_unless_folded-clause-answer : goal.returns-in_err-write_unless_folded-clause-answer
returns-in_err-write_unless_folded-clause-answer c =
    let f = c.args.self in
    let a = taken f.shaped.description f.shaped.curve.now in
    let p = err_from_is_err_and c.from_residual.result c.from_residual.ensures.1 in
    rw (p.1, p.2) (refused-by (fold_tests a.description a.curve) (finite_tests a) tt tt c.in_err-write_unless_folded.ensures.answer)

pub returns-in_err-write_unless_folded-clause-vertices_after : goal.returns-in_err-write_unless_folded-clause-vertices_after
returns-in_err-write_unless_folded-clause-vertices_after c =
    let f = c.args.self in
    let w = c.in_err-write_unless_folded.ensures in
    let p = err_from_is_err_and c.from_residual.result c.from_residual.ensures.1 in
    rw (p.1, p.2)
    (folded f.totals f.shaped.description f.shaped.curve.now f.shaped.body c.args.vertices.now f.shaped.permitted f.shaped.described
    c.requires w.answer w.out_after)

pub returns-clause-answer : goal.returns-clause-answer
returns-clause-answer c =
    let f = c.args.self in
    let w = c.in_ok-write_unless_folded.ensures in
    answered f.totals f.shaped.description f.shaped.curve.now f.shaped.body c.args.vertices.now f.shaped.permitted f.shaped.described
    c.requires w.out_after w.answer c.check_finite.ensures.answer

pub returns-clause-vertices_after : goal.returns-clause-vertices_after
returns-clause-vertices_after c =
    let f = c.args.self in
    let w = c.in_ok-write_unless_folded.ensures in
    let z = c.check_finite.ensures in
    leaves f.totals f.shaped.description f.shaped.curve.now f.shaped.body c.args.vertices.now f.shaped.permitted f.shaped.described
    c.requires w.out_after z.answer z.vertices_after
