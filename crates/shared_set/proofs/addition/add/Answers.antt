-- Each refusal is the first of the order that holds, and leaves the buffers as they were, but for
-- 23; an accepted body's entry, vertices and triangles are those of the body alone. Assumes
-- nothing.
use Rattle.std.proofs.Common.{◌≡◌, refl, ap, ◌∙◌, false, eqb, List, ◌++◌, ℕ, Float, length}
use Rattle.std.proofs.Common.{Bor}
use Rattle.std.proofs.lemmas.Result.{err_from_is_err_and}
use Rattle.kinds.specs.Kinds.{vertex_count, triangle_count}
use Rattle.kinds.specs.declared.topology.Topology.{Topology}
use Rattle.curve.specs.Segments.{vertices_in}
use Rattle.answers.specs.Answers.{Answer, Test, refused, accepted, first_of, number_of, not_finite}
use Rattle.answers.proofs.FirstOf.{accepted-by, passed-by, refused-by, other-than}
use Rattle.descriptions.specs.Descriptions.{topology_of}
use Rattle.descriptions.specs.Refusals.{segment_tests, fold_tests}
use Rattle.descriptions.specs.declared.shaped.Shaped.{Shaped}
use Rattle.descriptions.specs.declared.description.Description.{Description}
use Rattle.set_table.specs.Room.{room_tests}
use Rattle.set_table.specs.Table.{totals_in, table_tests, reading_of, with_entry}
use Rattle.set_table.specs.Buffers.{Buffers, buffers, lengths_of}
use Rattle.set_table.specs.declared.totals.Totals.{Totals}
use Rattle.set_table.proofs.Tables.{reads}
use Rattle.set_table.proofs.Fitting.{Fitting, fitting}
use Rattle.shared_set.specs.Bodies.{body_alone, entry_of}
use Rattle.shared_set.specs.Additions.{Addition, taken, fit_tests, finite_tests, addition_tests}
use Rattle.shared_set.specs.Set.{after, vertices_after, with_triangles, after_answer, add_tests, added}
use Rattle.shared_set.proofs.Additions.{untouched, answer_by, checked, refused-early, refused-fold, refused-room, enough-room}
use Rattle.shared_set.proofs.addition.add.Goals as goal

module _ (d : Description) (c : List Float) (s : Buffers) where
  -- the addition that the code makes
  abbrev asked : Addition
  asked = taken d c

  abbrev reading : Answer Totals
  reading = reading_of s.table (length s.vertices) (length s.triangles)

  abbrev first : List Test
  first = table_tests s.table (length s.vertices) (length s.triangles)

  -- a call that refuses and leaves the buffers as they were
  refuses : {k : ℕ} → (eqb k not_finite ≡ false) × (refused k ≡ answer_by (add_tests asked s))
      → after (refused k) s.table s.vertices s.triangles ≡ added asked s
  unfolding added
  refuses told = untouched (totals_in s.table) (body_alone asked) s told.0 told.1

  -- a damaged table
  damaged : {k : ℕ} → refused k ≡ reading → after (refused k) s.table s.vertices s.triangles ≡ added asked s
  damaged h = refuses (
    other-than not_finite first (totals_in s.table) (refl, tt) h,
    refused-by first (addition_tests (lengths_of s) (totals_in s.table) asked) (totals_in s.table) tt h,
  )

  -- where the table is sound, 1 leaves the answer to the others
  module _ {t : Totals} (sound : accepted t ≡ reading) where
    abbrev others : List Test
    others = addition_tests (lengths_of s) t asked

    behind : answer_by others ≡ answer_by (add_tests asked s)
    behind =
        let told = accepted-by first (totals_in s.table) sound in
        passed-by first others tt told.1
        ∙ ap (λ (t : Totals). answer_by (first ++ addition_tests (lengths_of s) t asked)) told.0

    left : {answer : Answer (Unit {0})} → answer ≡ answer_by others
        → after_answer t (body_alone asked) s answer ≡ added asked s
    unfolding added
    left is =
        let told = accepted-by first (totals_in s.table) sound in
        (λ j. after_answer (told.0 j) (body_alone asked) s ((is ∙ behind) j))

    refuses-after : {k : ℕ} → (eqb k not_finite ≡ false) × (refused k ≡ answer_by others)
        → after (refused k) s.table s.vertices s.triangles ≡ added asked s
    refuses-after told = refuses (told.0, told.1 ∙ behind)

    -- the first six tests refuse
    early : {k : ℕ} → refused k ≡ first_of (segment_tests d c) (topology_of d (vertices_in c))
        → after (refused k) s.table s.vertices s.triangles ≡ added asked s
    early h = refuses-after (refused-early asked (lengths_of s) t h)

    module _ {body : Topology} (passed : accepted body ≡ first_of (segment_tests d c) (topology_of d (vertices_in c))) where
      -- 2, 3 and 4 answer the same of the body that the check handed over and of its description
      abbrev room : Answer (Unit {0})
      room = answer_by (room_tests (lengths_of s) t (vertex_count body) (triangle_count body))

      same_room : room ≡ answer_by (fit_tests (lengths_of s) t d c)
      same_room = ap (λ (b : Topology). answer_by (room_tests (lengths_of s) t (vertex_count b) (triangle_count b))) (checked asked passed).same

      -- a fold refuses, or they do
      folded : {k : ℕ} → refused k ≡ answer_by (fold_tests d c)
          → after (refused k) s.table s.vertices s.triangles ≡ added asked s
      folded h = refuses-after (refused-fold asked (lengths_of s) t (checked asked passed).tests h)

      roomless : {k : ℕ} → accepted tt ≡ answer_by (fold_tests d c) → refused k ≡ room
          → after (refused k) s.table s.vertices s.triangles ≡ added asked s
      roomless straight h =
          refuses-after
          (refused-room asked (lengths_of s) t (checked asked passed).tests (accepted-by (fold_tests d c) tt straight).1 (h ∙ same_room))

      -- or 13 and 23 are left
      module _ (fits : accepted tt ≡ room) where
        last : {answer : Answer (Unit {0})} → answer ≡ answer_by (fold_tests d c ++ finite_tests asked)
            → after_answer t (body_alone asked) s answer ≡ added asked s
        last is =
            let fit = (accepted-by (fit_tests (lengths_of s) t d c) tt (fits ∙ same_room)).1 in
            left (is ∙ enough-room asked (lengths_of s) t (checked asked passed).tests fit)

        has-room : Fitting (lengths_of s) t (vertex_count body) (triangle_count body)
        has-room =
            fitting (lengths_of s) t (vertex_count body) (triangle_count body) (
              (accepted-by (room_tests (lengths_of s) t (vertex_count body) (triangle_count body)) tt fits).1,
              (reads s.table (length s.vertices) (length s.triangles) sound).1.few,
            )

  -- what is said of the body that was checked is said of the description and the curve
  retold : {X : Type 0} (F : Description → List Float → X) (shaped : Shaped) {curve : Bor (List Float)}
      → (shaped.description ≡ d) × (shaped.curve ≡ curve) → curve.now ≡ c → F shaped.description shaped.curve.now ≡ F d c
  retold F shaped same is = (λ i. F (same.0 i) (same.1 i).now) ∙ ap (F d) is

pub returns-in_err-totals : goal.returns-in_err-totals
returns-in_err-totals c =
    let a = c.args in
    let s = buffers a.table.now a.vertices.now a.triangles.now in
    let p = err_from_is_err_and c.from_residual.result c.from_residual.ensures.1 in
    rw (p.1, p.2) (damaged a.description a.curve.now s c.in_err-totals.ensures)

pub returns-in_err-shaped : goal.returns-in_err-shaped
returns-in_err-shaped c =
    let a = c.args in
    let s = buffers a.table.now a.vertices.now a.triangles.now in
    let r = c.from_residual-in_err-shaped in
    let p = err_from_is_err_and r.result r.ensures.1 in
    rw (p.1, p.2) (early a.description a.curve.now s c.in_ok-totals.ensures c.in_err-shaped.ensures.answer)

pub returns-in_err-check_folds : goal.returns-in_err-check_folds
returns-in_err-check_folds c =
    let a = c.args in
    let s = buffers a.table.now a.vertices.now a.triangles.now in
    let r = c.from_residual-in_err-check_folds in
    let p = err_from_is_err_and r.result r.ensures.1 in
    let told = c.in_ok-shaped.ensures in
    let same = retold a.description a.curve.now s (λ d c. answer_by (fold_tests d c)) c.in_ok-shaped.shaped told.same refl in
    rw (p.1, p.2)
    (folded a.description a.curve.now s c.in_ok-totals.ensures told.answer (c.in_err-check_folds.ensures ∙ same))

pub returns-in-Err : goal.returns-in-Err
returns-in-Err c =
    let a = c.args in
    let s = buffers a.table.now a.vertices.now a.triangles.now in
    let told = c.in_ok-shaped.ensures in
    let same = retold a.description a.curve.now s (λ d c. answer_by (fold_tests d c)) c.in_ok-shaped.shaped told.same refl in
    roomless a.description a.curve.now s c.in_ok-totals.ensures told.answer (c.in_ok-check_folds.ensures ∙ same) c.in-Err.ensures

pub invariant_of-fitting : goal.invariant_of-fitting
invariant_of-fitting c =
    let a = c.args in
    let s = buffers a.table.now a.vertices.now a.triangles.now in
    let room = has-room a.description a.curve.now s c.in_ok-totals.ensures c.in_ok-shaped.ensures.answer c.in_default.ensures in
    record { few_bodies = room.entry.0; few_vertices = room.vertices.0; few_triangles = room.triangles.0 }

pub draw-requires : goal.draw-requires
draw-requires c =
    let a = c.args in
    let s = buffers a.table.now a.vertices.now a.triangles.now in
    (has-room a.description a.curve.now s c.in_ok-totals.ensures c.in_ok-shaped.ensures.answer c.in_default.ensures).vertices.1

pub place-requires : goal.place-requires
place-requires c =
    let a = c.args in
    let s = buffers a.table.now a.vertices.now a.triangles.now in
    let room = has-room a.description a.curve.now s c.in_ok-totals.ensures c.in_ok-shaped.ensures.answer c.in_default.ensures in
    record { table_room = room.entry.1; triangles_room = room.triangles.1 }

pub returns-in_err-draw : goal.returns-in_err-draw
returns-in_err-draw c =
    let a = c.args in
    let s = buffers a.table.now a.vertices.now a.triangles.now in
    let t = c.in_ok-totals.totals in
    let told = c.in_ok-shaped.ensures in
    let r = c.from_residual-in_err-draw in
    let p = err_from_is_err_and r.result r.ensures.1 in
    let drawn = c.in_err-draw.ensures in
    let same = retold a.description a.curve.now s taken c.in_ok-shaped.shaped told.same refl in
    let vertices = drawn.vertices_after
    ∙ ap (λ (x : Addition). vertices_after (refused (number_of c.in_err-draw.field-0.0)) t (body_alone x) s.vertices) same in
    rw (p.1, p.2)
    ((λ i. after (refused (number_of c.in_err-draw.field-0.0)) s.table (vertices i) s.triangles)
    ∙ last a.description a.curve.now s c.in_ok-totals.ensures told.answer c.in_default.ensures
    (drawn.answer ∙ ap (λ (x : Addition). answer_by (fold_tests x.description x.curve ++ finite_tests x)) same))

pub returns : goal.returns
returns c =
    let a = c.args in
    let s = buffers a.table.now a.vertices.now a.triangles.now in
    let t = c.in_ok-totals.totals in
    let told = c.in_ok-shaped.ensures in
    let drawn = c.in_ok-draw.ensures in
    let placed = c.place.ensures in
    let same = retold a.description a.curve.now s taken c.in_ok-shaped.shaped told.same refl in
    let table = placed.table_after ∙ ap (λ (x : Addition). with_entry t.bodies (entry_of t (body_alone x)) s.table) same in
    let vertices = drawn.vertices_after ∙ ap (λ (x : Addition). vertices_after (accepted tt) t (body_alone x) s.vertices) same in
    let triangles = placed.triangles_after ∙ ap (λ (x : Addition). with_triangles t (body_alone x) s.triangles) same in
    (λ i. after (accepted tt) (table i) (vertices i) (triangles i))
    ∙ last a.description a.curve.now s c.in_ok-totals.ensures told.answer c.in_default.ensures
    (drawn.answer ∙ ap (λ (x : Addition). answer_by (fold_tests x.description x.curve ++ finite_tests x)) same)
