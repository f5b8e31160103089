-- The additions of a list of records, record by record. Assumes nothing.
use Rattle.std.proofs.Common.{◌≡◌, refl, sym, ap, ◌∙◌, Bool, true, false, cond, ◌&&◌, List, [], ◌∷◌, ◌++◌, ℕ, zero, suc, ◌+◌, ◌*◌, ◌≤◌, arith, le-leb, leb-true, leb, length, drop, length-drop}
use Rattle.std.proofs.lemmas.Bool.{and_parts}
use Rattle.answers.specs.Answers.{Answer}
use Rattle.set_table.specs.Buffers.{Buffers}
use Rattle.ledger.specs.Calls.{Call, Called, addition, answered, additions}
use Rattle.records.specs.Records.{head_words, most_vertices, vertices_named, head_names, begins_with_record}
use Rattle.records.specs.Records.{record_words}
use Rattle.records.specs.Records.{described_in, curve_in, addition_of, first_addition, additions_of, additions_in}

-- what it tells that the words begin with a record, and which do
pub record Whole (words : List ℕ) : Type 0 where
  pub head : head_words ≤ length words
  pub few : vertices_named words ≤ most_vertices
  pub coordinates : head_words + 3 * vertices_named words ≤ length words

pub whole : (words : List ℕ) → begins_with_record words ≡ true → Whole words
unfolding begins_with_record head_names
whole words h =
    let named = head_names words in
    let fits = leb (head_words + 3 * vertices_named words) (length words) in
    let parts = and_parts named fits h in
    let head = and_parts (leb head_words (length words)) (leb (vertices_named words) most_vertices) parts.0 in
    record {
      head = leb-true head_words (length words) head.0;
      few = leb-true (vertices_named words) most_vertices head.1;
      coordinates = leb-true (head_words + 3 * vertices_named words) (length words) parts.1;
    }

pub whole-begins : (words : List ℕ) → Whole words → begins_with_record words ≡ true
unfolding begins_with_record head_names
whole-begins words w =
    let end = head_words + 3 * vertices_named words in
    λ j. (le-leb head_words (length words) w.head j && le-leb (vertices_named words) most_vertices w.few j)
    && le-leb end (length words) w.coordinates j

-- what each of the three definitions is, once it is known whether the words begin with a record
abbrev words_if : List ℕ → Bool → ℕ
words_if words there = cond there (head_words + 3 * vertices_named words) 0

abbrev first_if : List ℕ → Bool → List Call
first_if words there = cond there (addition_of (described_in words) (curve_in words)) []

abbrev all_if : List ℕ → List Call → Bool → List Call
all_if words others there = cond there (first_addition words ++ others) []

pub record-length : (words : List ℕ) → begins_with_record words ≡ true
    → record_words words ≡ head_words + 3 * vertices_named words
record-length words h = ap (words_if words) h

pub first-addition : (words : List ℕ) → begins_with_record words ≡ true
    → first_addition words ≡ addition_of (described_in words) (curve_in words)
first-addition words h = ap (first_if words) h

pub no-addition : (words : List ℕ) → begins_with_record words ≡ false → first_addition words ≡ []
no-addition words h = ap (first_if words) h

-- what the length tells
pub is-record : (words : List ℕ) → (record_words words ≡ 0 → ⊥) → begins_with_record words ≡ true
is-record words h = by (begins_with_record words) refl where
  by : (b : Bool) → begins_with_record words ≡ b → begins_with_record words ≡ true
  by true e = e
  by false e = absurd (h (ap (words_if words) e))

pub no_record : (words : List ℕ) → record_words words ≡ 0 → begins_with_record words ≡ false
no_record words h = by (begins_with_record words) refl where
  by : (b : Bool) → begins_with_record words ≡ b → begins_with_record words ≡ false
  by true e = absurd (omega (arith, record-length words e))
  by false e = e

-- the additions of one record, and the others after them
abbrev following : List ℕ → List Call → List Call
following words others = all_if words others (begins_with_record words)

same-others : (words : List ℕ) (b : Bool) (f g : List Call) → begins_with_record words ≡ b → (b ≡ true → f ≡ g)
    → following words f ≡ following words g
same-others words true f g e h = ap (following words) (h refl)
same-others words false f g e h = ap (all_if words f) e ∙ sym (ap (all_if words g) e)

-- no words, no records
no_words : (m : ℕ) (words : List ℕ) → length words ≤ 0 → additions_of m words ≡ []
no_words zero words h = refl
no_words (suc m) words h = none (begins_with_record words) refl where
  others : List Call
  others = additions_of m (drop (record_words words) words)

  none : (b : Bool) → begins_with_record words ≡ b → following words others ≡ []
  none true e = absurd (omega (arith, h, (whole words e).head))
  none false e = ap (all_if words others) e

-- any number of records that is large enough gives the same
enough : (n m : ℕ) (words : List ℕ) → length words ≤ n → length words ≤ m → additions_of n words ≡ additions_of m words
enough zero m words h k = sym (no_words m words h)
enough (suc n) zero words h k = no_words (suc n) words k
enough (suc n) (suc m) words h k =
    let rest = drop (record_words words) words in
    same-others words (begins_with_record words) (additions_of n rest) (additions_of m rest) refl
    (λ b. enough n m rest (shorter b n h) (shorter b m k))
  where
    shorter : begins_with_record words ≡ true → (n : ℕ) → length words ≤ suc n
        → length (drop (record_words words) words) ≤ n
    shorter b n h = omega (arith, length-drop (record_words words) words, record-length words b, (whole words b).head)

-- one record, and the others after it
pub additions-next : (words : List ℕ) → begins_with_record words ≡ true
    → additions_in words ≡ first_addition words ++ additions_in (drop (record_words words) words)
unfolding additions_in
additions-next words b =
    let rest = drop (record_words words) words in
    let others = additions_of (length rest) rest in
    let shorter : length rest ≤ length words = omega (arith, length-drop (record_words words) words) in
    enough (length words) (suc (length words)) words (omega arith) (omega arith)
    ∙ ap (following words) (enough (length words) (length rest) rest shorter (omega arith))
    ∙ ap (all_if words others) b

-- no further record
pub additions-none : (words : List ℕ) → begins_with_record words ≡ false → additions_in words ≡ []
unfolding additions_in
additions-none words b =
    enough (length words) (suc (length words)) words (omega arith) (omega arith)
    ∙ ap (all_if words (additions_of (length words) (drop (record_words words) words))) b

-- calls that come after others, which gave the answers `before`
abbrev pub preceded_by : List (Answer (Unit {0})) → Called → Called
preceded_by before r = record { answers = before ++ r.answers; left = r.left }

pub additions-append : (list more : List Call) (s : Buffers)
    → additions (list ++ more) s ≡ preceded_by (additions list s).answers (additions more (additions list s).left)
additions-append [] more s = refl
additions-append (a ∷ list) more s =
    ap (answered (addition a s).answer) (additions-append list more (addition a s).left)
