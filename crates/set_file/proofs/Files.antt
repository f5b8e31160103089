-- A word of a file that is made of several lists: the list that has it, and its place there.
-- Assumes nothing.
use Rattle.std.proofs.Common.{Option, Some, None, ok_or, option_map, option_copied, slice_get, slice_range, zero, ◌≡◌, refl, sym, ap, ◌∙◌, List, [], ◌∷◌, ◌++◌, map, ℕ, suc, ◌+◌, ◌*◌, ◌-◌, ◌≤◌, ◌<◌, zero-add, suc-add, arith, le-leb, Float, to_bits, length, get_or, length-append}
use Rattle.std.proofs.lemmas.Bool.{lt-leb}
use Rattle.std.proofs.Math.Dec.{leb-suc-suc}
use Rattle.std.specs.Float.{binary32}
use Rattle.std.proofs.Math.ListN.{length-map, get_or-append}
use Rattle.std.proofs.lemmas.Option.{slice_get-map, slice_get_within, slice_get_read, slice_get_past, get_or_from_slice_get}
use Rattle.std.specs.Slice.{IsItemAt}
use Rattle.std.proofs.Common.{Bor}
use Rattle.answers.specs.Answers.{Answer, Test, refused, accepted, answer_of}
use Rattle.answers.specs.declared.refusal.Refusal.TheVariants.{PastEnd}
use Rattle.answers.proofs.FirstOf.{accepted-by, passed-by}
use Rattle.laws.specs.Parts.{part}
use Rattle.set_table.specs.Entries.{table_words, entries_in, all_words, entry_totals}
use Rattle.set_table.specs.Table.{bodies_in, totals_in, table_tests, reading_of}
use Rattle.set_table.proofs.Words.{table-words, count-entries}
use Rattle.set_table.specs.Buffers.{Buffers}
use Rattle.set_table.specs.declared.totals.Totals.{Totals}
use Rattle.set_file.specs.File.{file_head, file_body, entries_held, floats_held, indices_held, file_in}
use Rattle.set_file.specs.File.{end_tests, word_in, file_word_of}

-- a word of a list, and none past its end
word-here : (xs : List ℕ) (place : ℕ) → place < length xs → accepted (get_or xs place 0) ≡ word_in xs place
word-here xs place h = rw (le-leb (place + 1) (length xs) (omega arith))

word-past : (xs : List ℕ) (place : ℕ) → length xs ≤ place → refused 5 ≡ word_in xs place
word-past xs place h = rw (lt-leb (place + 1) (length xs) (omega arith))

-- a word of the first of two lists
word-front : (xs ys : List ℕ) (place : ℕ) → place < length xs → accepted (get_or xs place 0) ≡ word_in (xs ++ ys) place
word-front xs ys place h =
    ap accepted (sym (get_or-append xs ys 0 place h)) ∙ word-here (xs ++ ys) place (omega (arith, length-append xs ys))

word_more : (x : ℕ) (xs : List ℕ) (k : ℕ) → word_in xs k ≡ word_in (x ∷ xs) (suc k)
word_more x xs k = rw (suc-add k 1, leb-suc-suc (k + 1) (length xs))

word-add : (xs ys : List ℕ) (k : ℕ) → word_in ys k ≡ word_in (xs ++ ys) (length xs + k)
word-add [] ys k = ap (word_in ys) (sym (zero-add k))
word-add (x ∷ xs) ys k =
    word-add xs ys k ∙ word_more x (xs ++ ys) (length xs + k) ∙ ap (word_in (x ∷ (xs ++ ys))) (sym (suc-add (length xs) k))

-- a word after the first list, which has n words
word-behind : (xs ys : List ℕ) (place : ℕ) {n : ℕ} → length xs ≡ n → n ≤ place
    → word_in ys (place - n) ≡ word_in (xs ++ ys) place
word-behind xs ys place {n} e h = word-add xs ys (place - n) ∙ ap (word_in (xs ++ ys)) (omega arith)

-- what `get` answers
pub got : {X : Type 0} (xs : List X) (k : ℕ) (r : Option (Bor X)) → IsItemAt xs k r → option_copied r ≡ slice_get xs k
got xs k (Some x) h = sym (slice_get_read xs (length xs) k x.now refl h.3.0 h.1)
got xs k None h = sym (slice_get_past xs k h.3)

-- past the end of a list is where `get` finds nothing
past : {A : Type 0} (xs : List A) (place : ℕ) → None ≡ slice_get xs place → length xs ≤ place
past [] place h = omega arith
past (x ∷ xs) zero h = cc
past (x ∷ xs) (suc k) h = omega (arith, past xs k h)

-- a word that `get` finds in the first of two lists, and the words behind that list where it finds
-- none
found : (xs ys : List ℕ) (place : ℕ) {w : ℕ} → Some w ≡ slice_get xs place → accepted w ≡ word_in (xs ++ ys) place
found xs ys place {w} h =
    ap accepted (sym (get_or_from_slice_get xs place w 0 (sym h)))
    ∙ word-front xs ys place (slice_get_within xs place w (sym h))

not-found : (xs ys : List ℕ) (place : ℕ) → None ≡ slice_get xs place
    → word_in ys (place - length xs) ≡ word_in (xs ++ ys) place
not-found xs ys place h = word-behind xs ys place refl (past xs place h)

-- the word of a list that `get` finds, or none
only : (xs : List ℕ) (place : ℕ) (word : Option ℕ) → word ≡ slice_get xs place
    → answer_of (ok_or word PastEnd) ≡ word_in xs place
only xs place (Some w) h =
    ap accepted (sym (get_or_from_slice_get xs place w 0 (sym h))) ∙ word-here xs place (slice_get_within xs place w (sym h))
only xs place None h = word-past xs place (past xs place h)

-- the buffers hold a set of these totals
pub record Held (t : Totals) (s : Buffers) : Type 0 where
  pub table : table_words t.bodies ≤ length s.table
  pub vertices : 3 * t.vertices ≤ length s.vertices
  pub triangles : 3 * t.triangles ≤ length s.triangles

-- the file after its head
abbrev pub body_in : Totals → Buffers → List ℕ
body_in t s = file_body (entries_held t s) (floats_held t s) (indices_held t s)

-- the word after the head: an entry's, a vertex's, a triangle's, or none
module _ (t : Totals) (s : Buffers) (held : Held t s) (place : ℕ) {end : ℕ} (ends : end ≡ table_words t.bodies) where
  -- the words of the entries, and their part of the table, up to `end`
  abbrev words : List ℕ
  words = all_words (entries_held t s)

  abbrev entries : List ℕ
  entries = slice_range s.table 1 end

  abbrev floats : List ℕ
  floats = map (to_bits binary32) (floats_held t s)

  same : words ≡ entries
  same =
      table-words s.table t.bodies held.table
      ∙ ap (λ (n : ℕ). part 1 n s.table) (omega arith)

  pub entry-word : {w : ℕ} → Some w ≡ slice_get entries place → accepted w ≡ word_in (body_in t s) place
  entry-word h =
      found entries (floats ++ indices_held t s) place h
      ∙ ap (λ (l : List ℕ). word_in (l ++ (floats ++ indices_held t s)) place) (sym same)

  module _ (none : None ≡ slice_get entries place) where
    abbrev second : ℕ
    second = place - length entries

    behind-entries : word_in (floats ++ indices_held t s) second ≡ word_in (body_in t s) place
    behind-entries =
        not-found entries (floats ++ indices_held t s) place none
        ∙ ap (λ (l : List ℕ). word_in (l ++ (floats ++ indices_held t s)) place) (sym same)

    pub vertex-word : {x : Float} → Some x ≡ slice_get (floats_held t s) second
        → accepted (to_bits binary32 x) ≡ word_in (body_in t s) place
    vertex-word h =
        found floats (indices_held t s) second
        (ap (option_map (to_bits binary32)) h ∙ sym (slice_get-map (to_bits binary32) (floats_held t s) second))
        ∙ behind-entries

    module _ (none-either : None ≡ slice_get (floats_held t s) second) where
      abbrev third : ℕ
      third = second - length (floats_held t s)

      pub triangle-word : {word : Option ℕ} → word ≡ slice_get (indices_held t s) third
          → answer_of (ok_or word PastEnd) ≡ word_in (body_in t s) place
      triangle-word {word} h =
          only (indices_held t s) third word h
          ∙ ap (λ (n : ℕ). word_in (indices_held t s) (second - n)) (sym (length-map (floats_held t s) (to_bits binary32)))
          ∙ not-found floats (indices_held t s) second
          (ap (option_map (to_bits binary32)) none-either ∙ sym (slice_get-map (to_bits binary32) (floats_held t s) second))
          ∙ behind-entries

-- a table that is read as t leaves the answer to the file, and a damaged one has no file
module _ (s : Buffers) (place : ℕ) where
  abbrev reading : Answer Totals
  reading = reading_of s.table (length s.vertices) (length s.triangles)

  abbrev read_tests : List Test
  read_tests = table_tests s.table (length s.vertices) (length s.triangles)

  abbrev file : List ℕ
  file = file_in (totals_in s.table) s

  -- the head has the totals of the entries
  pub word-sound : {t : Totals} → accepted t ≡ reading → word_in (file_head t ++ body_in t s) place ≡ file_word_of s place
  word-sound h =
      let told = accepted-by read_tests (totals_in s.table) h in
      let count = count-entries s.table (bodies_in s.table) in
      ap (λ (t : Totals). word_in (file_head t ++ body_in t s) place) told.0
      ∙ ap (λ (B : ℕ). word_in (file_head (entry_totals (entries_in s.table B)) ++ body_in (totals_in s.table) s) place) (sym count)
      ∙ passed-by read_tests (end_tests file place) (get_or file place 0) told.1
