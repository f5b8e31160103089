-- The words of a table's entries, read as entries and written again, are those of the table; and
-- what a list of entries adds up to. Assumes nothing.
use Rattle.std.proofs.Common.{◌≡◌, refl, sym, ap, ◌∙◌, List, [], ◌∷◌, ◌++◌, append-nil, ℕ, zero, suc, ◌+◌, ◌*◌, ◌≤◌, arith, length, length-append, take_all}
use Rattle.std.proofs.lemmas.Grind.{flat_map-append}
use Rattle.std.proofs.lemmas.List.Sums.{fold_push}
use Rattle.laws.specs.Parts.{part}
use Rattle.laws.proofs.Parts.{length_part, part-more}
use Rattle.laws.proofs.Blocks.{length-blocks, elements}
use Rattle.descriptions.proofs.KindNumbers.{kind-known}
use Rattle.set_table.specs.Entries.{entry_words, words_of, table_words, entry_in, entries_in, all_words}
use Rattle.set_table.specs.Entries.{entry_totals}
use Rattle.set_table.specs.declared.entries.Entry.{Entry}
use Rattle.set_table.specs.declared.totals.Totals.{Totals}

-- totals and one entry more
abbrev pub with_one : Totals → Entry → Totals
with_one t e = record {
  bodies = t.bodies + 1;
  vertices = t.vertices + e.vertices;
  triangles = t.triangles + e.triangles;
}

-- one entry more in a list
pub all-words-next : (es : List Entry) (e : Entry) → all_words (es ++ (e ∷ [])) ≡ all_words es ++ words_of e
all-words-next es e =
    flat_map-append words_of es (e ∷ []) ∙ ap (λ (l : List ℕ). all_words es ++ l) (append-nil (words_of e))

pub totals-next : (es : List Entry) (e : Entry) → entry_totals (es ++ (e ∷ [])) ≡ with_one (entry_totals es) e
totals-next es e =
    λ i. record {
      bodies = length-append es (e ∷ []) i;
      vertices = fold_push (λ (n : ℕ) (e : Entry). n + e.vertices) 0 es e i;
      triangles = fold_push (λ (n : ℕ) (e : Entry). n + e.triangles) 0 es e i;
    }

-- as many entries as are asked for
pub count-entries : (T : List ℕ) (B : ℕ) → length (entries_in T B) ≡ B
count-entries T B = omega (arith, length-blocks 1 B (λ (j : ℕ). entry_in T j ∷ []) (λ k h. refl))

-- the entry that a table has at a place, as words again
entry-words : (T : List ℕ) (j : ℕ) → table_words (j + 1) ≤ length T
    → words_of (entry_in T j) ≡ part (table_words j) entry_words T
entry-words T j h =
    let words = part (table_words j) entry_words T in
    let sized = length_part (table_words j) entry_words T (omega arith) in
    elements words 0 entry_words (omega (arith, sized)) ∙ take_all entry_words words (omega (arith, sized))

pub table-words : (T : List ℕ) (B : ℕ) → table_words B ≤ length T
    → all_words (entries_in T B) ≡ part 1 (entry_words * B) T
table-words T zero h = refl
table-words T (suc B) h =
    let before = table-words T B (omega arith) in
    let here = entry-words T B (omega arith) in
    let size : entry_words * suc B ≡ entry_words * B + entry_words = omega arith in
    all-words-next (entries_in T B) (entry_in T B)
    ∙ (λ i. before i ++ here i)
    ∙ sym (part-more 1 (entry_words * B) entry_words T)
    ∙ ap (λ (k : ℕ). part 1 k T) (sym size)

-- what the search uses where an entry's kind is tested
pub ruleset known_kinds = (kind-known)
