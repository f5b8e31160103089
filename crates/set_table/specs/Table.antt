-- "The table is u32 words: word 0 the body count B, then six words a body" (document 01, 'The
-- shared set'): reading it, refusal 1 (a damaged table), and the table after one entry more. Sums
-- are of whole numbers. Definitions only.
use Rattle.std.specs.Prelude.{Bool, ◌&&◌, Option, List, [], ◌∷◌, ℕ, ◌+◌, ◌*◌, eqb, leb, length, get_or}
use Rattle.std.specs.Bool.{then_some}
use Rattle.laws.specs.Overwrite.{overwrite}
use Rattle.laws.specs.Every.{every}
use Rattle.surface.specs.Limits.{most_in_all}
use Rattle.kinds.specs.Limits.{between}
use Rattle.answers.specs.Answers.{Answer, Test, first_of, test}
use Rattle.descriptions.specs.KindNumbers.{last_kind}
use Rattle.set_table.specs.Entries.{words_of, table_words, entry_in, entries_in, entry_totals}
use Rattle.set_table.specs.Room.{most_bodies}
use Rattle.set_table.specs.declared.totals.Totals.{Totals}
use Rattle.set_table.specs.declared.entries.Entry.{Entry}

abbrev pub bodies_in : List ℕ → ℕ
bodies_in T = get_or T 0 0

-- what the first j entries add up to
abbrev pub totals_before : List ℕ → ℕ → Totals
totals_before T j = entry_totals (entries_in T j)

-- not "a kind outside 1 to 5; a first vertex or triangle other than the sum before it", these
-- being t's; "Refusal 1 and the program admit kind 6" (document 02, No. 1)
unfoldable pub entry_sound : Entry → Totals → Bool
entry_sound e t = between 1 last_kind e.kind && (eqb e.vertex t.vertices && eqb e.triangle t.triangles)

abbrev pub sound_at : List ℕ → ℕ → Bool
sound_at T j = entry_sound (entry_in T j) (totals_before T j)

-- of B entries: each is sound, and not "a total above 2^28"
unfoldable pub entries_sound : List ℕ → ℕ → Bool
entries_sound T B =
    let t = totals_before T B in
    every B (sound_at T) && (leb t.vertices most_in_all && leb t.triangles most_in_all)

-- not "B above 64, or 1 + 6B above its length"
abbrev pub entries_fit : ℕ → ℕ → Bool
entries_fit B length = leb B most_bodies && leb (table_words B) length

-- nor "empty"
unfoldable pub head_sound : List ℕ → Bool
head_sound T = leb 1 (length T) && entries_fit (bodies_in T) (length T)

-- the number of bodies, if the head is sound
abbrev pub bodies_read : List ℕ → Option ℕ
bodies_read T = then_some (head_sound T) (bodies_in T)

-- the table by itself, whatever the other buffers' lengths are
unfoldable pub table_sound : List ℕ → Bool
table_sound T = head_sound T && entries_sound T (bodies_in T)

abbrev pub totals_in : List ℕ → Totals
totals_in T = totals_before T (bodies_in T)

-- not "a total .. times 3, above a buffer's length": what the two other buffers must have room for
unfoldable pub totals_held : Totals → ℕ → ℕ → Bool
totals_held t vertices triangles = leb (3 * t.vertices) vertices && leb (3 * t.triangles) triangles

-- Refusal 1 (a damaged table) is the opposite, `vertices` and `triangles` being the lengths of the
-- other two buffers.
unfoldable pub undamaged : List ℕ → ℕ → ℕ → Bool
undamaged T vertices triangles = table_sound T && totals_held (totals_in T) vertices triangles

abbrev pub table_tests : List ℕ → ℕ → ℕ → List Test
table_tests T vertices triangles = test 1 (undamaged T vertices triangles) ∷ []

-- what a table says, or refusal 1
abbrev pub reading_of : List ℕ → ℕ → ℕ → Answer Totals
reading_of T vertices triangles = first_of (table_tests T vertices triangles) (totals_in T)

-- a table of B entries with one more, and word 0 raised
abbrev pub with_entry : ℕ → Entry → List ℕ → List ℕ
with_entry B e T = overwrite 0 ((B + 1) ∷ []) (overwrite (table_words B) (words_of e) T)
