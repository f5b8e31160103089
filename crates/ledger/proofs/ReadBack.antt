-- A table that begins with a ledger's set is not damaged, and says what the ledger says. Assumes
-- nothing.
use Rattle.std.proofs.Common.{◌≡◌, refl, sym, ap, subst, ◌∙◌, true, ◌&&◌, List, [], ◌∷◌, ◌++◌, append_assoc, append-nil, ℕ, ◌+◌, ◌≤◌, add-one, arith, eq-eqb, length}
use Rattle.laws.specs.Parts.{part}
use Rattle.laws.specs.Overwrite.{overwrite}
use Rattle.laws.proofs.Overwrite.{length-overwrite, get_or-within, overwrite-append}
use Rattle.laws.proofs.Overlaps.{overwrite-swap}
use Rattle.laws.proofs.Lent.{part-written}
use Rattle.laws.specs.Every.{every}
use Rattle.set_table.specs.Entries.{entry_words, words_of, entry_from, table_words, entry_in, entries_in, all_words, entry_totals}
use Rattle.set_table.specs.Room.{lengths}
use Rattle.set_table.specs.Table.{bodies_in, totals_before, entry_sound, sound_at}
use Rattle.set_table.specs.Table.{undamaged, totals_in}
use Rattle.set_table.specs.declared.totals.Totals.{Totals}
use Rattle.set_table.proofs.Tables.{reads-undamaged}
use Rattle.set_table.proofs.Words.{all-words-next}
use Rattle.shared_set.specs.Bodies.{Body, entry_of}
use Rattle.ledger.specs.Ledger.{Ledger, empty, then, body_count, vertex_sum, triangle_sum, totals_of}
use Rattle.ledger.specs.Ledger.{entries_of, set_table}
use Rattle.ledger.specs.Shapes.{EachShaped}
use Rattle.ledger.specs.Holds.{Limited}
use Rattle.ledger.proofs.Bodies.{kind-known}
use Rattle.ledger.proofs.Sizes.{length-table, entries-totals}

-- the entries of T are the ledger's
abbrev Begins : Ledger → List ℕ → Type 0
Begins empty T = Unit
Begins (then L b) T = Begins L T × (entry_in T (body_count L) ≡ entry_of (totals_of L) b)

-- a part of what is written, whatever comes before and after it
part-of-write : {A : Type 0} (front mid more old : List A) (at count : ℕ) → at ≡ length front
    → length mid ≡ count → at + count ≤ length old
    → part at count (overwrite 0 (front ++ (mid ++ more)) old) ≡ mid
part-of-write front mid more old at count is sized room =
    let begun = overwrite 0 front old in
    let place : 0 + length front ≡ at = omega arith in
    let split : overwrite 0 (front ++ (mid ++ more)) old ≡ overwrite at mid (overwrite (at + length mid) more begun) =
    sym (overwrite-append 0 front (mid ++ more) old)
    ∙ ap (λ (p : ℕ). overwrite p (mid ++ more) begun) place
    ∙ sym (overwrite-append at mid more begun)
    ∙ overwrite-swap at (at + length mid) mid more begun (omega arith) in
    let same = length-overwrite (at + length mid) more begun ∙ length-overwrite 0 front old in
    ap (part at count) split ∙ part-written at count mid (overwrite (at + length mid) more begun) sized (omega (arith, same))

begins : (L : Ledger) (n : ℕ) (more T : List ℕ) → table_words (body_count L) ≤ length T
    → Begins L (overwrite 0 (n ∷ (all_words (entries_of L) ++ more)) T)
begins empty n more T room = tt
begins (then L b) n more T room =
    let e = entry_of (totals_of L) b in
    let words = all_words (entries_of L) in
    let list : (all_words (entries_of L ++ (e ∷ [])) ++ more) ≡ words ++ (words_of e ++ more) =
    ap (λ (l : List ℕ). l ++ more) (all-words-next (entries_of L) e) ∙ append_assoc words (words_of e) more in
    let here = part-of-write (n ∷ words) (words_of e) more T (table_words (body_count L)) entry_words (sym (length-table L)) refl (omega arith) in
    subst (λ (l : List ℕ). Begins (then L b) (overwrite 0 (n ∷ l) T)) (sym list)
    (begins L n (words_of e ++ more) T (omega arith), ap entry_from here)

same_entries : (L : Ledger) (T : List ℕ) → Begins L T → entries_in T (body_count L) ≡ entries_of L
same_entries empty T h = refl
same_entries (then L b) T h =
    ap (entries_in T) (add-one (body_count L)) ∙ (λ j. same_entries L T h.0 j ++ (h.1 j ∷ []))

-- what they add up to
same_totals : (L : Ledger) (T : List ℕ) → Begins L T → totals_before T (body_count L) ≡ totals_of L
same_totals L T h = ap entry_totals (same_entries L T h) ∙ entries-totals L

entry-sound : (L : Ledger) (b : Body) → EachShaped (then L b)
    → entry_sound (entry_of (totals_of L) b) (totals_of L) ≡ true
unfolding entry_sound
entry-sound L b s =
    λ j. kind-known (vertex_sum L) b s.1 j && (eq-eqb (vertex_sum L) (vertex_sum L) refl j && eq-eqb (triangle_sum L) (triangle_sum L) refl j)

entries-sound : (L : Ledger) (T : List ℕ) → EachShaped L → Begins L T
    → every (body_count L) (sound_at T) ≡ true
entries-sound empty T s h = refl
entries-sound (then L b) T s h =
    let here : sound_at T (body_count L) ≡ true =
    (λ j. entry_sound (h.1 j) (same_totals L T h.0 j)) ∙ entry-sound L b s in
    ap (λ (k : ℕ). every k (sound_at T)) (add-one (body_count L)) ∙ (λ j. entries-sound L T s.0 h.0 j && here j)

module _ (L : Ledger) (T₀ : List ℕ) (vertices triangles : ℕ) (held : Limited (lengths (length T₀) vertices triangles) L) where
  abbrev T : List ℕ
  T = overwrite 0 (set_table L) T₀

  there : Begins L T
  there =
      subst (λ (l : List ℕ). Begins L (overwrite 0 (body_count L ∷ l) T₀)) (append-nil (all_words (entries_of L)))
      (begins L (body_count L) [] T₀ held.entries)

  count-read : bodies_in T ≡ body_count L
  count-read = get_or-within 0 (set_table L) T₀ 0 0 (omega arith) (omega (arith, held.entries))

  -- its entries are the ledger's
  pub entries-read : entries_in T (body_count L) ≡ entries_of L
  entries-read = same_entries L T there

  pub totals-read : totals_in T ≡ totals_of L
  totals-read = ap (totals_before T) count-read ∙ same_totals L T there

  pub not-damaged : EachShaped L → undamaged T vertices triangles ≡ true
  not-damaged s =
      let sized = length-overwrite 0 (set_table L) T₀ in
      let b = ap (λ (t : Totals). t.bodies) totals-read in
      let v = ap (λ (t : Totals). t.vertices) totals-read in
      let t = ap (λ (t : Totals). t.triangles) totals-read in
      reads-undamaged T vertices triangles
      (record {
        few = omega (arith, b, held.few);
        held = omega (arith, sized, b, held.entries);
        vertices = omega (arith, v, held.vertices.0);
        vertices-held = omega (arith, v, held.vertices.1);
        triangles = omega (arith, t, held.triangles.0);
        triangles-held = omega (arith, t, held.triangles.1);
      })
      (ap (λ (k : ℕ). every k (sound_at T)) count-read ∙ entries-sound L T s there)
