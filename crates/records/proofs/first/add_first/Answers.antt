-- A record that is none, or of no kind, asks for no addition; any other for the one that is made.
-- Assumes nothing.
use Rattle.std.proofs.Common.{◌≡◌, sym, ap, ◌∙◌, true, not, List, [], map, ℕ, ◌+◌, ◌-◌, ◌*◌, ◌≤◌, eqb, arith, Float}
use Rattle.std.proofs.Common.{length, take, drop, get_or-take, Option, Some, None}
use Rattle.std.specs.Float.{binary32}
use Rattle.std.specs.Float.Ieee.{of_bits}
use borrow.Rule.Slice.PartAt.{part_count}
use Rattle.descriptions.specs.declared.description.Description.{Description}
use Rattle.descriptions.specs.KindNumbers.{described_of}
use Rattle.set_table.specs.Buffers.{buffers}
use Rattle.shared_set.specs.Additions.{taken}
use Rattle.shared_set.specs.Set.{After, added}
use Rattle.ledger.specs.Calls.{Call, Called, answered, additions}
use Rattle.records.specs.Records.{begins_with_record, unless_zero, record_words, vertices_named, described_in, curve_in}
use Rattle.records.specs.Records.{addition_of, first_addition}
use Rattle.records.proofs.Additions.{Whole, whole, record-length, is-record, no_record, first-addition, no-addition}
use Rattle.records.proofs.Lengths.{unless_zero-some, unless_zero-none}
use Rattle.records.proofs.first.add_first.Goals as goal

-- A record of `end` words that is there: its coordinates lie between its head and its end.
module _ (words : List ℕ) (end : ℕ) (named : Some end ≡ unless_zero (record_words words)) where
  is : end ≡ record_words words
  is = (unless_zero-some named).0

  begins : begins_with_record words ≡ true
  begins = is-record words (λ none. omega (arith, none, unless_zero-some named))

  there : Whole words
  there = whole words begins

  long : end ≡ 7 + 3 * vertices_named words
  long = is ∙ record-length words begins

  curve : map (of_bits binary32) (take (end - 7) (drop 7 words)) ≡ curve_in words
  curve =
      let between : end - 7 ≡ 3 * vertices_named words = omega (arith, long) in
      ap (λ (n : ℕ). map (of_bits binary32) (take n (drop 7 words))) between

  inside : (7 ≤ end) × (end ≤ length words)
  inside = omega (arith, long, there.coordinates)

  few : length (take (end - 7) (drop 7 words)) ≤ 1536
  few = omega (arith, part_count words 7 end inside, long, there.few)

  -- what its head describes
  described : {head : List ℕ} → head ≡ take 7 words → described_in head ≡ described_in words
  described is =
      let w0 = get_or-take 7 words 0 0 (omega arith) in
      let w1 = get_or-take 7 words 1 0 (omega arith) in
      let w2 = get_or-take 7 words 2 0 (omega arith) in
      let w3 = get_or-take 7 words 3 0 (omega arith) in
      let w4 = get_or-take 7 words 4 0 (omega arith) in
      let w5 = get_or-take 7 words 5 0 (omega arith) in
      ap described_in is
      ∙ (λ j. described_of (w0 j) (w1 j) (w2 j) (not (eqb (w3 j) 0)) (of_bits binary32 (w4 j)) (of_bits binary32 (w5 j)))

  -- what it asks for
  asked : (d : Option Description) → d ≡ described_in words → addition_of d (curve_in words) ≡ first_addition words
  asked d known = ap (λ (k : Option Description). addition_of k (curve_in words)) known ∙ sym (first-addition words begins)

-- what one call leaves, as a list of calls
abbrev once : After → Called
once r = answered r.answer (record { answers = []; left = r.left })

pub returns-in_err-end : goal.returns-in_err-end
returns-in_err-end c =
    let a = c.args in
    let s = buffers a.table.now a.vertices.now a.triangles.now in
    let none = no_record a.words.now (unless_zero-none c.in_err-end.ensures) in
    rw c.from_residual.ensures (ap (λ (list : List Call). additions list s) (sym (no-addition a.words.now none)))

pub returns-in_err-head : goal.returns-in_err-head
returns-in_err-head c =
    let none : ⊥ = omega (arith, (there c.args.words.now c.in_ok-end.end c.in_ok-end.ensures).head, c.in_err-head.ensures.cases) in
    absurd none

pub slice_bounds-coordinates-end : goal.slice_bounds-coordinates-end
slice_bounds-coordinates-end c = (inside c.args.words.now c.in_ok-end.end c.in_ok-end.ensures).1

pub add_body-requires : goal.add_body-requires
add_body-requires c = few c.args.words.now c.in_ok-end.end c.in_ok-end.ensures

pub returns-in_err-description : goal.returns-in_err-description
returns-in_err-description c =
    let a = c.args in
    let s = buffers a.table.now a.vertices.now a.triangles.now in
    let known = described a.words.now c.in_ok-end.end c.in_ok-end.ensures c.in_ok-head.ensures.cases.0 in
    rw c.from_residual-in_err-description.ensures
    (ap (λ (list : List Call). additions list s)
    (asked a.words.now c.in_ok-end.end c.in_ok-end.ensures None (c.in_err-description.ensures ∙ known)))

pub returns : goal.returns
returns c =
    let a = c.args in
    let s = buffers a.table.now a.vertices.now a.triangles.now in
    let d = c.in_ok-description.description in
    let known = described a.words.now c.in_ok-end.end c.in_ok-end.ensures c.in_ok-head.ensures.cases.0 in
    ap once (c.add_body.ensures ∙ ap (λ (l : List Float). added (taken d l) s) (curve a.words.now c.in_ok-end.end c.in_ok-end.ensures))
    ∙ ap (λ (list : List Call). additions list s)
    (asked a.words.now c.in_ok-end.end c.in_ok-end.ensures (Some d) (c.in_ok-description.ensures ∙ known))
