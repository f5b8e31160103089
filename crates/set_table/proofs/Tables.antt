-- What a table that is not damaged tells, and which table is one. Assumes nothing.
use Rattle.std.proofs.Common.{◌≡◌, refl, sym, ap, ◌∙◌, subst, Bool, true, false, ◌&&◌, List, [], ◌∷◌, ℕ, ◌+◌, ◌*◌, ◌≤◌, ◌<◌, le-leb, leb-true, leb, length, Some, None, add-one, arith}
use Rattle.std.proofs.Math.Bool.{and-false, and_assoc}
use Rattle.std.proofs.lemmas.Bool.{and_parts}
use Rattle.laws.proofs.Conjunction.{and-exchange}
use Rattle.laws.specs.Every.{every}
use Rattle.laws.proofs.Every.{every_more, every-fails}
use Rattle.surface.specs.Limits.{most_in_all, fits}
use Rattle.answers.specs.Answers.{refused, accepted, first_of, test}
use Rattle.answers.proofs.FirstOf.{accepted-by}
use Rattle.set_table.specs.Entries.{table_words, entry_in, entries_in}
use Rattle.set_table.specs.Room.{most_bodies}
use Rattle.std.specs.Bool.{then_some}
use Rattle.set_table.specs.Table.{bodies_in, totals_before, entry_sound, sound_at, entries_sound, bodies_read, head_sound, table_sound, totals_in, totals_held, undamaged, table_tests, reading_of}
use Rattle.set_table.proofs.Words.{with_one, totals-next, count-entries}
use Rattle.set_table.specs.declared.entries.Entry.{Entry}
use Rattle.set_table.specs.declared.totals.Totals.{Totals}

-- what a sound head is
pub head-bounds : (T : List ℕ) → head_sound T ≡ true
    → (1 ≤ length T) × (bodies_in T ≤ most_bodies) × (table_words (bodies_in T) ≤ length T)
unfolding head_sound
head-bounds T h =
    let B = bodies_in T in
    let some = and_parts (leb 1 (length T)) (leb B most_bodies && leb (table_words B) (length T)) h in
    let held = and_parts (leb B most_bodies) (leb (table_words B) (length T)) some.1 in
    (leb-true 1 (length T) some.0, leb-true B most_bodies held.0, leb-true (table_words B) (length T) held.1)

-- the number of bodies that is read of it, or none
pub head-read : (T : List ℕ) {B : ℕ} → Some B ≡ bodies_read T → (head_sound T ≡ true) × (B ≡ bodies_in T)
head-read T {B} h = told (head_sound T) h where
  told : (b : Bool) → Some B ≡ then_some b (bodies_in T) → (b ≡ true) × (B ≡ bodies_in T)
  told true h = (refl, cc)
  told false h = cc

pub head-unread : (T : List ℕ) → None ≡ bodies_read T → head_sound T ≡ false
head-unread T h = told (head_sound T) h where
  told : (b : Bool) → None ≡ then_some b (bodies_in T) → b ≡ false
  told true h = cc
  told false h = refl

-- What it tells of totals that they were read of a table; the other two buffers have v and r
-- elements.
pub record Reads (T : List ℕ) (v r : ℕ) (t : Totals) : Type 0 where
  pub few : t.bodies ≤ most_bodies
  pub held : table_words t.bodies ≤ length T
  pub vertices : t.vertices ≤ most_in_all
  pub vertices-held : 3 * t.vertices ≤ v
  pub triangles : t.triangles ≤ most_in_all
  pub triangles-held : 3 * t.triangles ≤ r

-- whether totals fit buffers of v and r elements
abbrev pub both_fit : ℕ → ℕ → Totals → Bool
both_fit v r t = fits t.vertices v && fits t.triangles r

-- t is what the first j entries add up to, and each of them is sound.
pub record Summed (T : List ℕ) (j : ℕ) (t : Totals) : Type 0 where
  pub totals : t ≡ totals_before T j
  pub sound : every j (sound_at T) ≡ true

module _ (T : List ℕ) (j : ℕ) {t : Totals} (before : Summed T j t) where
  -- entry j, by the test that is made of it after them
  entry-tested : {e : Entry} {b : Bool} → e ≡ entry_in T j → entry_sound e t ≡ b → sound_at T j ≡ b
  entry-tested is tested = (λ i. entry_sound (sym is i) (sym before.totals i)) ∙ tested

  pub summed-next : {e : Entry} → e ≡ entry_in T j → entry_sound e t ≡ true → Summed T (j + 1) (with_one t e)
  summed-next is sound = record {
    totals = (λ i. with_one (before.totals i) (is i)) ∙ sym (totals-next (entries_in T j) (entry_in T j))
        ∙ ap (totals_before T) (sym (add-one j));
    sound = every_more j (sound_at T) before.sound (entry-tested is sound);
  }

module _ (T : List ℕ) (v r : ℕ) where
  abbrev B : ℕ
  B = bodies_in T

  abbrev each : Bool
  each = every B (sound_at T)

  abbrev below : Bool
  below = leb (totals_in T).vertices most_in_all && leb (totals_in T).triangles most_in_all

  abbrev inside : Bool
  inside = leb (3 * (totals_in T).vertices) v && leb (3 * (totals_in T).triangles) r

  -- the tests of refusal 1: the head, each entry, the totals' limit, the buffers' lengths
  tests : undamaged T v r ≡ (head_sound T && (each && below)) && inside
  unfolding undamaged table_sound entries_sound totals_held
  tests = refl

  -- the same, with the two tests of each total together
  tested-in-turn : undamaged T v r
      ≡ head_sound T && (each && both_fit v r (totals_in T))
  unfolding fits
  tested-in-turn =
      let vs = leb (totals_in T).vertices most_in_all in
      let ts = leb (totals_in T).triangles most_in_all in
      tests
      ∙ and_assoc (head_sound T) (each && below) inside
      ∙ ap (λ (b : Bool). head_sound T && b) (and_assoc each below inside)
      ∙ ap (λ (b : Bool). head_sound T && (each && b)) (and-exchange vs ts (leb (3 * (totals_in T).vertices) v) (leb (3 * (totals_in T).triangles) r))

  -- what it tells of its entries and its numbers, and back
  pub undamaged-reads : undamaged T v r ≡ true → (each ≡ true) × Reads T v r (totals_in T)
  undamaged-reads h =
      let parts = and_parts (head_sound T && (each && below)) inside (sym tests ∙ h) in
      let own = and_parts (head_sound T) (each && below) parts.0 in
      let head = head-bounds T own.0 in
      let count = count-entries T B in
      let entries = and_parts each below own.1 in
      let few = and_parts (leb (totals_in T).vertices most_in_all) (leb (totals_in T).triangles most_in_all) entries.1 in
      let lent = and_parts (leb (3 * (totals_in T).vertices) v) (leb (3 * (totals_in T).triangles) r) parts.1 in (
        entries.0,
        record {
          few = omega (arith, head.1, count);
          held = omega (arith, head.2, count);
          vertices = leb-true (totals_in T).vertices most_in_all few.0;
          vertices-held = leb-true (3 * (totals_in T).vertices) v lent.0;
          triangles = leb-true (totals_in T).triangles most_in_all few.1;
          triangles-held = leb-true (3 * (totals_in T).triangles) r lent.1;
        },
      )

  pub reads-undamaged : Reads T v r (totals_in T) → each ≡ true → undamaged T v r ≡ true
  unfolding head_sound
  reads-undamaged told entries =
      let count = count-entries T B in
      let few : B ≤ most_bodies = omega (arith, told.few, count) in
      let held : table_words B ≤ length T = omega (arith, told.held, count) in
      tests
      ∙ (λ j. ((le-leb 1 (length T) (omega arith) j && (le-leb B most_bodies few j && le-leb (table_words B) (length T) held j))
      && (entries j && (le-leb (totals_in T).vertices most_in_all told.vertices j && le-leb (totals_in T).triangles most_in_all told.triangles j)))
      && (le-leb (3 * (totals_in T).vertices) v told.vertices-held j && le-leb (3 * (totals_in T).triangles) r told.triangles-held j))

  -- what a sound reading tells
  pub reads : {t : Totals} → accepted t ≡ reading_of T v r → (t ≡ totals_in T) × Reads T v r t
  reads h =
      let told = accepted-by (table_tests T v r) (totals_in T) h in
      (told.0, subst (Reads T v r) (sym told.0) (undamaged-reads told.1.0).1)

  damaged : undamaged T v r ≡ false → refused 1 ≡ reading_of T v r
  damaged h = rw h

  -- the readings that find damage: in the head, or in entry j after sound ones
  pub head-damaged : head_sound T ≡ false → refused 1 ≡ reading_of T v r
  head-damaged h = damaged (tests ∙ (λ i. (h i && (each && below)) && inside))

  pub entry-damaged : (j : ℕ) {t : Totals} {e : Entry} → Summed T j t → j < B → e ≡ entry_in T j
      → entry_sound e t ≡ false → refused 1 ≡ reading_of T v r
  entry-damaged j before h is fails =
      let some = every-fails B (sound_at T) j h (entry-tested T j before is fails) in
      damaged (tests ∙ (λ i. (head_sound T && (some i && below)) && inside) ∙ ap (λ (b : Bool). b && inside) (and-false (head_sound T)))

  -- the reading of a table whose entries are sound, by whether what they add up to fits
  pub summed-read : {t : Totals} {p : Bool} → head_sound T ≡ true → Summed T B t → p ≡ both_fit v r t
      → first_of (test 1 p ∷ []) t ≡ reading_of T v r
  summed-read {p = p} head all is =
      let right : p ≡ undamaged T v r =
      is ∙ (λ i. sym head i && (sym all.sound i && both_fit v r (all.totals i))) ∙ sym tested-in-turn in
      (λ i. first_of (test 1 (right i) ∷ []) (all.totals i))
