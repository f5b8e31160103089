-- The words of a set's file: what a file word tells of them, and a buffer that is filled with
-- them. Assumes nothing.
use Rattle.std.proofs.Common.{◌≡◌, refl, sym, ap, ◌∙◌, Bool, true, false, cond, List, [], ◌∷◌, ◌++◌}
use Rattle.std.proofs.Common.{ℕ, ◌+◌, ◌≤◌, ◌<◌, min, zero-add, add-one, arith, leb-true, leb-false}
use Rattle.std.proofs.Common.{leb, length, get_or, set, take, drop, length-set, take-append-drop}
use Rattle.std.proofs.Common.{length-take-le, take-suc, take_all}
use Rattle.laws.specs.Overwrite.{overwrite}
use Rattle.laws.proofs.Overwrite.{overwrite-none, written_behind, overwrite-past, one_store}
use Rattle.answers.specs.Answers.{Answer, refused, accepted, first_of, test}
use Rattle.answers.proofs.FirstOf.{accepted-by}
use Rattle.set_table.specs.Table.{totals_in, undamaged}
use Rattle.set_table.specs.Buffers.{Buffers}
use Rattle.set_file.specs.File.{file_in, end_tests, file_word_of}
use Rattle.sweep.specs.File.{file_words}

-- the words of a file that is there or not, and the answer for its word at a place
abbrev words_of : Bool → List ℕ → List ℕ
words_of there file = cond there file []

abbrev answer_at : Bool → List ℕ → ℕ → Answer ℕ
answer_at there file i = first_of (test 1 there ∷ end_tests file i) (get_or file i 0)

word-here : (there : Bool) (file : List ℕ) (i : ℕ) {w : ℕ} → accepted w ≡ answer_at there file i
    → (i < length (words_of there file)) × (w ≡ get_or (words_of there file) i 0)
word-here true file i h =
    let told = accepted-by (end_tests file i) (get_or file i 0) h in
    (omega (arith, leb-true (i + 1) (length file) told.1.0), told.0)
word-here false file i h = let z : ◌≡◌ {A = ℕ} 0 1 = cc in absurd (omega arith)

not-passed : (p : Bool) {k : ℕ} (w : ℕ) → refused k ≡ cond p (accepted w) (refused 5) → p ≡ false
not-passed true w h = let z : ◌≡◌ {A = ℕ} 0 1 = cc in absurd (omega arith)
not-passed false w h = refl

none_here : (there : Bool) (file : List ℕ) (i : ℕ) {k : ℕ} → refused k ≡ answer_at there file i
    → length (words_of there file) ≤ i
none_here true file i h =
    omega (arith, leb-false (i + 1) (length file) (not-passed (leb (i + 1) (length file)) (get_or file i 0) h))
none_here false file i h = omega arith

-- what an answer tells of word i
module _ (s : Buffers) (i : ℕ) where
  abbrev there : Bool
  there = undamaged s.table (length s.vertices) (length s.triangles)

  pub word-told : {w : ℕ} → accepted w ≡ file_word_of s i
      → (i < length (file_words s)) × (w ≡ get_or (file_words s) i 0)
  unfolding file_words
  word-told h = word-here there (file_in (totals_in s.table) s) i h

  pub end-told : {k : ℕ} → refused k ≡ file_word_of s i → length (file_words s) ≤ i
  unfolding file_words
  end-told h = none_here there (file_in (totals_in s.table) s) i h

-- a buffer to whose front the first i words of `file` were written
pub record Filled (file words₀ : List ℕ) (i : ℕ) (words : List ℕ) : Type 0 where
  pub within : i ≤ length file
  pub fits : i ≤ length words₀
  pub sized : length words ≡ length words₀
  pub holds : words ≡ overwrite 0 (take i file) words₀

module _ (file words₀ : List ℕ) where
  pub none_filled : Filled file words₀ 0 words₀
  none_filled = record { within = omega arith; fits = omega arith; sized = refl; holds = sym (overwrite-none 0 words₀) }

  module _ {i : ℕ} {words : List ℕ} (f : Filled file words₀ i words) where
    -- what is written after them
    more-written : (more : List ℕ) {words' : List ℕ} → words' ≡ overwrite i more words
        → words' ≡ overwrite 0 (take i file ++ more) words₀
    more-written more written =
        written_behind 0 (take i file) more words₀ f.holds (length-take-le i file f.within)
        (written ∙ ap (λ (k : ℕ). overwrite k more words) (sym (zero-add i)))

    pub one-filled : {w : ℕ} → i < length words₀ → i < length file → w ≡ get_or file i 0
        → Filled file words₀ (i + 1) (set words i w)
    one-filled {w} fits more is =
        let next : take (i + 1) file ≡ take i file ++ (w ∷ []) = rw (add-one i, is) (take-suc file i 0 more) in record {
          within = omega arith;
          fits = omega (arith, f.sized);
          sized = length-set words i w ∙ f.sized;
          holds = more-written (w ∷ []) (one_store i w words) ∙ ap (λ (l : List ℕ). overwrite 0 l words₀) (sym next);
        }

    -- how many are written, and what the buffer holds, where no word is left, or no room
    abbrev Whole : ℕ → Type 0
    Whole count = (count ≡ min (length file) (length words₀)) × (words ≡ overwrite 0 file words₀)

    pub no-word-left : length file ≤ i → Whole i
    no-word-left h = (omega arith, f.holds ∙ ap (λ (l : List ℕ). overwrite 0 l words₀) (take_all i file h))

    pub no-room-left : length words₀ ≤ i → Whole (length words)
    no-room-left h = (
      omega (arith, f.sized),
      more-written (drop i file) (overwrite-past i (drop i file) words (omega (arith, f.sized))) ∙ ap (λ (l : List ℕ). overwrite 0 l words₀) (take-append-drop i file),
    )
