-- The length that a head names: of the record, where its words are there, and of its words alone.
-- Assumes nothing.
use Rattle.std.proofs.Common.{◌≡◌, refl, sym, ap, ◌∙◌, Bool, true, false, cond, ◌&&◌, List, zero, suc, ℕ, ◌+◌, ◌*◌, ◌≤◌, ◌<◌, arith, le-leb, leb-true, leb-false, leb, length, take, length-take, length-take-le, get_or-take, take-take, Some, None}
use Rattle.std.proofs.lemmas.Bool.{lt-leb, and_parts}
use Rattle.std.specs.Bool.{then_some}
use Rattle.records.specs.Records.{head_words, most_vertices, vertices_named, head_names, unless_zero, length_named}
use Rattle.records.specs.Records.{begins_with_record, record_words}
use Rattle.records.proofs.Additions.{whole, whole-begins, record-length}

-- what a length tells, as code has it
pub unless_zero-some : {n c : ℕ} → Some c ≡ unless_zero n → (c ≡ n) × (0 < c)
unless_zero-some {n} {c} h = by n h where
  by : (n : ℕ) → Some c ≡ unless_zero n → (c ≡ n) × (0 < c)
  by zero h = cc
  by (suc n) h = let same : c ≡ suc n = cc in (same, omega arith)

pub unless_zero-none : {n : ℕ} → None ≡ unless_zero n → n ≡ 0
unless_zero-none {n} h = by n h where
  by : (n : ℕ) → None ≡ unless_zero n → n ≡ 0
  by zero h = refl
  by (suc n) h = cc

pub some-length : (n : ℕ) → 0 < n → Some n ≡ unless_zero n
some-length zero h = absurd (omega arith)
some-length (suc n) h = refl

module _ (words : List ℕ) where
  abbrev whole_length : ℕ
  whole_length = head_words + 3 * vertices_named words

  -- a head that is too short, and one that is not
  pub short_head : length words ≤ 6 → None ≡ unless_zero (length_named words)
  unfolding head_names
  short_head h = rw (lt-leb 7 (length words) (omega arith))

  pub long_head : {v : ℕ} → 7 ≤ length words → v ≡ vertices_named words
      → then_some (leb v most_vertices) (head_words + 3 * v) ≡ unless_zero (length_named words)
  unfolding head_names
  long_head h is =
      (λ i. then_some (leb (is i) most_vertices) (head_words + 3 * is i))
      ∙ by (leb (vertices_named words) most_vertices)
      ∙ (λ i. unless_zero (cond (sym (le-leb 7 (length words) h) i && leb (vertices_named words) most_vertices) whole_length 0))
    where
      by : (b : Bool) → then_some b whole_length ≡ unless_zero (cond b whole_length 0)
      by true = some-length whole_length (omega arith)
      by false = refl

  -- the two definitions, once it is known whether there is a head, and whether its record's words
  -- are there
  abbrev words_if : Bool → Bool → ℕ
  words_if named fits = cond (named && fits) whole_length 0

  abbrev named_if : Bool → ℕ
  named_if named = cond named whole_length 0

  -- a record of the length that is named, or none where there are fewer words
  pub all_there : {n : ℕ} → n ≡ length_named words → n ≤ length words → n ≡ record_words words
  unfolding begins_with_record
  all_there {n} is fits = by (head_names words) refl where
    by : (b : Bool) → head_names words ≡ b → n ≡ record_words words
    by true e =
        let long = is ∙ ap named_if e in
        long ∙ sym (λ j. words_if (e j) (le-leb whole_length (length words) (omega (arith, long, fits)) j))
    by false e = is ∙ ap named_if e ∙ sym (λ j. words_if (e j) (leb whole_length (length words)))

  pub too_few : {n : ℕ} → n ≡ length_named words → length words < n → 0 ≡ record_words words
  unfolding begins_with_record
  too_few {n} is lacks = by (head_names words) refl where
    by : (b : Bool) → head_names words ≡ b → 0 ≡ record_words words
    by true e =
        let long = is ∙ ap named_if e in
        sym (λ j. words_if (e j) (lt-leb whole_length (length words) (omega (arith, long, lacks)) j))
    by false e = sym (λ j. words_if (e j) (leb whole_length (length words)))

  -- the same, as code has it
  pub there-if : {n : ℕ} → Some n ≡ unless_zero (length_named words)
      → then_some (leb n (length words)) n ≡ unless_zero (record_words words)
  there-if {n} h = by (leb n (length words)) refl where
    by : (b : Bool) → leb n (length words) ≡ b → then_some b n ≡ unless_zero (record_words words)
    by true e =
        let told = unless_zero-some h in
        some-length n told.1 ∙ ap unless_zero (all_there told.0 (leb-true n (length words) e))
    by false e = ap unless_zero (too_few (unless_zero-some h).0 (leb-false n (length words) e))

  pub none_there : None ≡ unless_zero (length_named words) → None ≡ unless_zero (record_words words)
  none_there h = ap unless_zero (all_there (sym (unless_zero-none h)) (omega arith))

  -- 0, or a head and at most 512 vertices
  pub named-bounds : {n : ℕ} → n ≡ length_named words → (n ≡ 0 → ⊥)
      → (head_words ≤ n) × (n ≤ head_words + 3 * most_vertices)
  unfolding head_names
  named-bounds {n} is some = by (head_names words) refl where
    by : (b : Bool) → head_names words ≡ b → (head_words ≤ n) × (n ≤ head_words + 3 * most_vertices)
    by true e =
        let tests = and_parts (leb head_words (length words)) (leb (vertices_named words) most_vertices) e in
        let few = leb-true (vertices_named words) most_vertices tests.1 in
        let long = is ∙ ap named_if e in
        (omega (arith, long), omega (arith, long, few))
    by false e = absurd (some (is ∙ ap named_if e))

-- a record's words alone are the same record
same-alone : (words : List ℕ) → record_words (take (record_words words) words) ≡ record_words words
unfolding begins_with_record head_names
same-alone words = by (begins_with_record words) refl where
  n : ℕ
  n = record_words words

  by : (b : Bool) → begins_with_record words ≡ b → record_words (take n words) ≡ n
  by true e =
      let alone = take n words in
      let there = whole words e in
      let long : n ≡ head_words + 3 * vertices_named words = record-length words e in
      let sized : length alone ≡ n = length-take-le n words (omega (arith, long, there.coordinates)) in
      let same : vertices_named alone ≡ vertices_named words = get_or-take n words 6 0 (omega (arith, long)) in
      let begins = whole-begins alone (record {
        head = omega (arith, sized, long);
        few = omega (arith, same, there.few);
        coordinates = omega (arith, sized, long, same);
      }) in
      record-length alone begins ∙ ap (λ (v : ℕ). head_words + 3 * v) same ∙ sym long
  by false e =
      let none : n ≡ 0 = ap (λ (b : Bool). cond b (head_words + 3 * vertices_named words) 0) e in
      ap (λ (k : ℕ). record_words (take k words)) none ∙ sym none

pub record-fits : (words : List ℕ) → record_words words ≤ length words
record-fits words = by (begins_with_record words) refl where
  by : (b : Bool) → begins_with_record words ≡ b → record_words words ≤ length words
  by true e = omega (arith, record-length words e, (whole words e).coordinates)
  by false e = omega (arith, ap (λ (b : Bool). cond b (head_words + 3 * vertices_named words) 0) e)

-- a record at the front of the first k words lies at the front of all, and has all of its own
-- words
pub first_alone : (k : ℕ) (words : List ℕ) {r : ℕ} → r ≡ record_words (take k words)
    → (r ≤ length words) × (r ≡ record_words (take r words))
first_alone k words {r} is =
    let fits : r ≤ length (take k words) = omega (arith, is, record-fits (take k words)) in (
      omega (arith, fits, length-take k words),
      is
          ∙ sym (same-alone (take k words))
          ∙ ap (λ (n : ℕ). record_words (take n (take k words))) (sym is)
          ∙ ap record_words (take-take r k words (omega (arith, fits, length-take k words))),
    )
