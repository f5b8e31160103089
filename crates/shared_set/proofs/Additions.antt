-- What an addition to a set answers, by what its parts answer, and what a refusal leaves. Assumes
-- nothing.
use Rattle.std.proofs.Common.{◌≡◌, refl, sym, ap, ◌∙◌, false, cond, List, ◌++◌, append_assoc, ℕ, eqb, Float}
use Rattle.kinds.specs.declared.topology.Topology.{Topology}
use Rattle.curve.specs.Segments.{vertices_in}
use Rattle.answers.specs.Answers.{Answer, Test, AllPermitted, refused, accepted, first_of, not_finite}
use Rattle.answers.proofs.FirstOf.{accepted-by, passed-by, passed-within, refused-by, other-than}
use Rattle.descriptions.specs.Descriptions.{topology_of}
use Rattle.descriptions.specs.Refusals.{ShapePermitted, segment_tests, fold_tests}
use Rattle.descriptions.specs.declared.description.Description.{Description}
use Rattle.descriptions.proofs.Shapes.{segments-shape}
use Rattle.set_table.specs.declared.lengths.Lengths.{Lengths}
use Rattle.set_table.specs.Buffers.{Buffers}
use Rattle.set_table.specs.declared.totals.Totals.{Totals}
use Rattle.shared_set.specs.Bodies.{Body}
use Rattle.shared_set.specs.Additions.{Addition, fit_tests, finite_tests, place_tests, addition_tests}
use Rattle.shared_set.specs.Set.{after, with_zeros, after_answer}

-- "leave all buffers untouched, save 23"
pub untouched : {k : ℕ} (t : Totals) (b : Body) (s : Buffers) {answer : Answer (Unit {0})}
    → eqb k not_finite ≡ false → refused k ≡ answer
    → after (refused k) s.table s.vertices s.triangles ≡ after_answer t b s answer
untouched {k} t b s other h =
    (λ j. after (refused k) s.table (cond (sym other j) (with_zeros t b s.vertices) s.vertices) s.triangles)
    ∙ ap (after_answer t b s) h

abbrev pub answer_by : List Test → Answer (Unit {0})
answer_by tests = first_of tests tt

module _ (a : Addition) where
  abbrev d : Description
  d = a.description

  abbrev c : List Float
  c = a.curve

  -- what a body is that 10, 20, 21, 22, 11 and 12 let pass
  pub record Checked (body : Topology) : Type 0 where
    pub same : body ≡ topology_of d (vertices_in c)
    pub tests : AllPermitted (segment_tests d c)
    pub shape : ShapePermitted d (vertices_in c)

  pub checked : {body : Topology} → accepted body ≡ first_of (segment_tests d c) (topology_of d (vertices_in c))
      → Checked body
  checked h =
      let told = accepted-by (segment_tests d c) (topology_of d (vertices_in c)) h in
      record { same = told.0; tests = told.1; shape = (segments-shape d c told.1).1 }

  module _ (lent : Lengths) (t : Totals) where
    abbrev place : List Test
    place = place_tests lent t a

    -- 10 to 12, then 13, then the others
    same_order : answer_by (segment_tests d c ++ (fold_tests d c ++ place)) ≡ answer_by (addition_tests lent t a)
    same_order = ap answer_by (sym (append_assoc (segment_tests d c) (fold_tests d c) place))

    -- the first six refuse it
    pub refused-early : {k : ℕ} → refused k ≡ first_of (segment_tests d c) (topology_of d (vertices_in c))
        → (eqb k not_finite ≡ false) × (refused k ≡ answer_by (addition_tests lent t a))
    refused-early h = (
      other-than not_finite (segment_tests d c) (topology_of d (vertices_in c)) (refl, (refl, (refl, (refl, (refl, (refl, tt)))))) h,
      refused-by (segment_tests d c) (fold_tests d c ++ place) (topology_of d (vertices_in c)) tt h ∙ same_order,
    )

    module _ (h : AllPermitted (segment_tests d c)) where
      after-segments : answer_by (fold_tests d c ++ place) ≡ answer_by (addition_tests lent t a)
      after-segments = passed-by (segment_tests d c) (fold_tests d c ++ place) tt h ∙ same_order

      -- a fold (13) refuses it
      pub refused-fold : {k : ℕ} → refused k ≡ answer_by (fold_tests d c)
          → (eqb k not_finite ≡ false) × (refused k ≡ answer_by (addition_tests lent t a))
      refused-fold e = (
        other-than not_finite (fold_tests d c) tt (refl, tt) e,
        refused-by (fold_tests d c) place tt tt e ∙ after-segments,
      )

      -- or else 2, 3 or 4 does
      pub refused-room : {k : ℕ} → AllPermitted (fold_tests d c) → refused k ≡ answer_by (fit_tests lent t d c)
          → (eqb k not_finite ≡ false) × (refused k ≡ answer_by (addition_tests lent t a))
      refused-room folds e = (
        other-than not_finite (fit_tests lent t d c) tt (refl, (refl, (refl, tt))) e,
        refused-by (fit_tests lent t d c) (finite_tests a) tt tt e
            ∙ passed-by (fold_tests d c) place tt folds
            ∙ after-segments,
      )

      -- where it has room, 13 and 23 are left to be tried
      pub enough-room : AllPermitted (fit_tests lent t d c)
          → answer_by (fold_tests d c ++ finite_tests a) ≡ answer_by (addition_tests lent t a)
      enough-room fit = passed-within (fold_tests d c) (fit_tests lent t d c) (finite_tests a) tt fit ∙ after-segments
