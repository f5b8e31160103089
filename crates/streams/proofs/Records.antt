-- The words of a head and of what follows it: what they are once they were read, and whether they
-- begin with a record. Assumes nothing.
use Rattle.std.proofs.Common.{◌≡◌, ℕ, ◌+◌, ◌-◌, ◌*◌, ◌/◌, ◌≤◌, ◌<◌, Bool, true, false, cond}
use Rattle.std.proofs.Common.{◌&&◌, List, ◌++◌, ◌∙◌, refl, sym, ap, subst, arith, length, take}
use Rattle.std.proofs.Common.{length-append, le-leb, leb-true, leb-false}
use Rattle.std.proofs.Common.{leb, Option, None, Some, Result, Ok, Err}
use Rattle.std.proofs.lemmas.Bool.{lt-leb}
use Rattle.std.proofs.Math.ListN.{get_or-append}
use Rattle.laws.specs.Overwrite.{placed}
use Rattle.laws.proofs.Lent.{part-written}
use Rattle.little_endian.specs.Words.{words_in}
use Rattle.records.specs.Records.{vertices_named, head_names, length_named, record_words}
use Rattle.records.proofs.Lengths.{all_there, too_few}
use Rattle.std.specs.Io.KnownBytes.{Consumes, prepend_known}
use Rattle.streams.specs.declared.record.Stop.{Stop}
use Rattle.streams.specs.Record.{NamesTooMany, IsCutShort, ReadFrom}
use Rattle.streams.proofs.Words.{length-words, words-append}

-- words that were read to the front of a buffer with room for them
pub read_back : (count : ℕ) (bytes words₀ : List ℕ) {words : List ℕ} {r : Bool} → length bytes ≡ 4 * count
    → count ≤ length words₀
    → r ≡ leb (length bytes / 4) (length words₀) → words ≡ placed r (words_in bytes) words₀ → take count words ≡ words_in bytes
read_back count bytes words₀ sized room is written =
    let fits : length bytes / 4 ≤ length words₀ = omega arith in
    let long : length (words_in bytes) ≡ count = omega (arith, length-words bytes) in
    ap (take count) (written ∙ ap (λ (b : Bool). placed b (words_in bytes) words₀) (is ∙ le-leb (length bytes / 4) (length words₀) fits))
    ∙ part-written 0 count (words_in bytes) words₀ long (omega (arith, room))

-- what a head names, whatever follows it
module _ (head more : List ℕ) (has : 7 ≤ length head) where
  pub same_vertices : vertices_named (head ++ more) ≡ vertices_named head
  same_vertices = get_or-append head more 0 6 has

  pub same_named : length_named (head ++ more) ≡ length_named head
  unfolding head_names
  same_named =
      let all = head ++ more in
      let long : 7 ≤ length all = omega (arith, length-append head more) in
      λ j. cond ((le-leb 7 (length all) long ∙ sym (le-leb 7 (length head) has)) j && leb (same_vertices j) 512) (7 + 3 * same_vertices j) 0

-- a head that names no length names too many vertices
pub too_many : (words : List ℕ) → 7 ≤ length words → length_named words ≡ 0 → NamesTooMany words
unfolding head_names
too_many words has none = (has, by (leb (vertices_named words) 512) refl) where
  by : (b : Bool) → leb (vertices_named words) 512 ≡ b → 512 < vertices_named words
  by true e =
      let named : length_named words ≡ 7 + 3 * vertices_named words =
      λ j. cond (le-leb 7 (length words) has j && e j) (7 + 3 * vertices_named words) 0 in
      absurd (omega (arith, named, none))
  by false e = leb-false (vertices_named words) 512 e

-- one that names a length does not
pub few_enough : (words : List ℕ) → 7 ≤ length words → (length_named words ≡ 0 → ⊥) → vertices_named words ≤ 512
unfolding head_names
few_enough words has some = by (leb (vertices_named words) 512) refl where
  by : (b : Bool) → leb (vertices_named words) 512 ≡ b → vertices_named words ≤ 512
  by true e = leb-true (vertices_named words) 512 e
  by false e = absurd (some (λ j. cond (le-leb 7 (length words) has j && e j) (7 + 3 * vertices_named words) 0))

-- 28 bytes that are the head of a record of `count` words, and the bytes behind them
module _ (count : ℕ) (head more : List ℕ) (sized : length head ≡ 28) (named : count ≡ length_named (words_in head)) (has : 7 ≤ count) where
  split : words_in (head ++ more) ≡ words_in head ++ words_in more
  split = words-append 7 head more sized

  seven : length (words_in head) ≡ 7
  seven = omega (arith, length-words head)

  named-still : count ≡ length_named (words_in (head ++ more))
  named-still = named ∙ sym (ap length_named split ∙ same_named (words_in head) (words_in more) (omega (arith, seven)))

  long : length (words_in (head ++ more)) ≡ (28 + length more) / 4
  long = omega (arith, length-words (head ++ more), length-append head more)

  pub is_whole : length more ≡ 4 * count - 28 → count ≡ record_words (words_in (head ++ more))
  is_whole fits = all_there (words_in (head ++ more)) named-still (omega (arith, long, fits))

  pub is-cut-short : length more < 4 * count - 28 → IsCutShort (words_in (head ++ more))
  is-cut-short lacks = (
    sym (too_few (words_in (head ++ more)) named-still (omega (arith, long, lacks))),
    λ _. few_enough (words_in (head ++ more)) (omega (arith, long)) (λ none. omega (arith, named-still, none)),
  )

-- fewer bytes than a head has
pub no_head : (bytes : List ℕ) → length bytes < 28 → IsCutShort (words_in bytes)
unfolding head_names
no_head bytes few =
    let words = words_in bytes in
    let short : length words < 7 = omega (arith, length-words bytes, few) in
    let none : length_named words ≡ 0 = λ j. cond (lt-leb 7 (length words) short j && leb (vertices_named words) 512) (7 + 3 * vertices_named words) 0 in
    (sym (all_there words (sym none) (omega arith)), λ has. absurd (omega (arith, has, short)))

-- a head that names too many vertices, whatever follows it
pub still_too_many : (head more : List ℕ) → length head ≡ 28 → length_named (words_in head) ≡ 0
    → NamesTooMany (words_in (head ++ more))
still_too_many head more sized none =
    let seven : 7 ≤ length (words_in head) = omega (arith, length-words head) in
    let split = words-append 7 head more sized in
    let told = too_many (words_in head) seven none in
    subst NamesTooMany (sym split) (
      omega (arith, length-append (words_in head) (words_in more), seven),
      omega (arith, told.1, same_vertices (words_in head) (words_in more) seven),
    )

-- what follows a head, as what the head begins
pub behind_head : (old mid new : Option (List ℕ)) (head : List ℕ) (next : Result ℕ Stop) (found : List ℕ) → Consumes old mid head
    → ReadFrom (prepend_known head mid) new next found → ReadFrom old new next found
behind_head None mid new head (Ok count) found p (bytes, q, sized, read) = (bytes, tt, sized, read)
behind_head None mid new head (Err why) found p q = tt
behind_head (Some x) None new head next found p q = absurd p
behind_head (Some x) (Some y) new head next found p q =
    subst (λ (l : List ℕ). ReadFrom (Some l) new next found) (sym p) q
