-- The file of a set, by its words (document 01, 'The shared set'). Definitions only.
use Rattle.std.specs.Prelude.{List, [], ◌∷◌, ◌++◌, map, ℕ, ◌+◌, ◌*◌, leb, Float, length, get_or}
use Rattle.std.specs.Float.{binary32}
use Rattle.std.specs.Float.Ieee.{to_bits}
use Rattle.laws.specs.Parts.{part}
use Rattle.answers.specs.Answers.{Answer, Test, first_of, test}
use Rattle.set_table.specs.Entries.{entries_in, all_words, entry_totals}
use Rattle.set_table.specs.Table.{totals_in, table_tests}
use Rattle.set_table.specs.Buffers.{Buffers}
use Rattle.set_table.specs.declared.entries.Entry.{Entry}
use Rattle.set_table.specs.declared.totals.Totals.{Totals}

-- the file's first word
abbrev pub edition : ℕ
edition = 1

-- "The file is little-endian 32-bit words: 1, B, total vertices, total triangles"
abbrev pub file_head : Totals → List ℕ
file_head t = edition ∷ t.bodies ∷ t.vertices ∷ t.triangles ∷ []

-- "the entries, all vertex bits, all triangles"; the bits of a NaN, which a lent buffer may hold,
-- are those of the toolchain's IEEE model
abbrev pub file_body : List Entry → List Float → List ℕ → List ℕ
file_body entries floats indices = all_words entries ++ (map (to_bits binary32) floats ++ indices)

-- the file of a set that has these entries, floats and indices
abbrev pub file_of : List Entry → List Float → List ℕ → List ℕ
file_of entries floats indices = file_head (entry_totals entries) ++ file_body entries floats indices

-- what the buffers hold of a set of these totals
abbrev pub entries_held : Totals → Buffers → List Entry
entries_held t s = entries_in s.table t.bodies

abbrev pub floats_held : Totals → Buffers → List Float
floats_held t s = part 0 (3 * t.vertices) s.vertices

abbrev pub indices_held : Totals → Buffers → List ℕ
indices_held t s = part 0 (3 * t.triangles) s.triangles

-- the file of the set in the buffers
abbrev pub file_in : Totals → Buffers → List ℕ
file_in t s = file_of (entries_held t s) (floats_held t s) (indices_held t s)

-- 5: not "file word at or past the end"
abbrev pub end_tests : List ℕ → ℕ → List Test
end_tests file place = test 5 (leb (place + 1) (length file)) ∷ []

abbrev pub word_in : List ℕ → ℕ → Answer ℕ
word_in file place = first_of (end_tests file place) (get_or file place 0)

-- "File word: 1, 5."
abbrev pub file_word_of : Buffers → ℕ → Answer ℕ
file_word_of s place =
    let file = file_in (totals_in s.table) s in
    let tests = table_tests s.table (length s.vertices) (length s.triangles) in
    first_of (tests ++ end_tests file place) (get_or file place 0)
