-- Each turn makes the calls of one record more; after the last there is none. Assumes nothing.
use Rattle.std.proofs.Common.{◌≡◌, sym, ap, subst, ◌∙◌, true, List, ℕ, ◌≤◌, Some, length, length-drop, arith}
use borrow.Author.Rules.{part_to_end}
use Rattle.laws.proofs.Overwrite.{length-overwrite}
use Rattle.set_table.specs.Room.{lengths}
use Rattle.set_table.specs.declared.lengths.Lengths.{Lengths}
use Rattle.set_table.specs.Buffers.{buffers}
use Rattle.records.specs.Records.{begins_with_record, unless_zero, record_words}
use Rattle.records.specs.Built.{numbers_of}
use Rattle.records.proofs.Additions.{whole, record-length, is-record, no_record}
use Rattle.records.proofs.Lengths.{unless_zero-some, unless_zero-none}
use Rattle.records.proofs.Progress.{Progress, begun, next, all_left, all-answered}
use Rattle.records.proofs.building.add_all.Goals as goal

-- a turn finds a record at the front of what remains
module _ (rest : List ℕ) {words : ℕ} (named : Some words ≡ unless_zero (record_words rest)) where
  begins : begins_with_record rest ≡ true
  begins = is-record rest (λ none. omega (arith, none, unless_zero-some named))

  is : words ≡ record_words rest
  is = (unless_zero-some named).0

  further : (7 ≤ words) × (words ≤ length rest)
  further =
      let sized = is ∙ record-length rest begins in
      (omega arith, omega (arith, (whole rest begins).coordinates))

pub loop-words-init : goal.loop-words-init
loop-words-init c =
    let a = c.args in
    begun a.records.now a.answers.now (buffers a.table.now a.vertices.now a.triangles.now)

pub loop-words-preserved : goal.loop-words-preserved
loop-words-preserved c =
    let a = c.args in
    let l = c.loop-words in
    let words = c.in-Some.words in
    let named = c.in-Some.ensures in
    let same = c.add_first-reply.auto in
    let put = c.put_answer-i.ensures in
    subst
    (λ (rest : List ℕ). Progress a.records.now a.answers.now (buffers a.table.now a.vertices.now a.triangles.now) c.put_answer-i.new.answers (buffers c.add_first-reply.new.table c.add_first-reply.new.vertices c.add_first-reply.new.triangles) rest c.put_answer-i.result)
    (sym (part_to_end l.rest.now words))
    (next a.records.now a.answers.now (buffers a.table.now a.vertices.now a.triangles.now) c.add_first-reply.result l.invariant
    (begins l.rest.now named) (is l.rest.now named) c.add_first-reply.ensures
    (λ j. lengths (same.table j) (same.vertices j) (same.triangles j))
    put.count put.answers_after)

pub offset_bounds-rest-words : goal.offset_bounds-rest-words
offset_bounds-rest-words c = omega (arith, further c.loop-words.rest.now c.in-Some.ensures)

pub slice_bounds-rest-count : goal.slice_bounds-rest-count
slice_bounds-rest-count c = (further c.loop-words.rest.now c.in-Some.ensures).1

pub slice_bounds-rest-start : goal.slice_bounds-rest-start
slice_bounds-rest-start c = (further c.loop-words.rest.now c.in-Some.ensures).1

pub loop-words-smaller : goal.loop-words-smaller
loop-words-smaller c =
    let far = further c.loop-words.rest.now c.in-Some.ensures in
    omega (arith, far, ap length (part_to_end c.loop-words.rest.now c.in-Some.words), length-drop c.in-Some.words c.loop-words.rest.now)

pub shape_of-answers : goal.shape_of-answers
shape_of-answers c =
    let p = c.loop-words.invariant in
    ap length p.written ∙ length-overwrite 0 (numbers_of p.done) c.args.answers.now

pub shape_of-table : goal.shape_of-table
shape_of-table c = ap (λ (n : Lengths). n.table) c.loop-words.invariant.sized

pub shape_of-vertices : goal.shape_of-vertices
shape_of-vertices c = ap (λ (n : Lengths). n.vertices) c.loop-words.invariant.sized

pub shape_of-triangles : goal.shape_of-triangles
shape_of-triangles c = ap (λ (n : Lengths). n.triangles) c.loop-words.invariant.sized

pub returns : goal.returns
returns c =
    let a = c.args in
    let s = buffers a.table.now a.vertices.now a.triangles.now in
    let p = c.loop-words.invariant in
    let none = no_record c.loop-words.rest.now (unless_zero-none c.in_default.ensures) in
    record {
      set_after = all_left a.records.now a.answers.now s p none;
      answers_after = all-answered a.records.now a.answers.now s p none;
    }
