-- "six words a body: kind .., n .., first vertex, vertex count, first triangle, triangle count"
-- (document 01, 'The shared set'): an entry as a value, its words, and where they stand. Nothing
-- else says how many words an entry has, or which. Definitions only.
use Rattle.std.specs.Prelude.{List, [], ◌∷◌, ℕ, ◌+◌, ◌*◌, length, get_or, flat_map, sum_by}
use Rattle.laws.specs.Parts.{part}
use Rattle.laws.specs.Blocks.{blocks}
use Rattle.set_table.specs.declared.entries.Entry.{Entry}
use Rattle.set_table.specs.declared.totals.Totals.{Totals}

abbrev pub entry_words : ℕ
entry_words = 6

abbrev pub words_of : Entry → List ℕ
words_of e = e.kind ∷ e.divisions ∷ e.vertex ∷ e.vertices ∷ e.triangle ∷ e.triangles ∷ []

-- the entry with these words
abbrev pub entry_from : List ℕ → Entry
entry_from words = record {
  kind = get_or words 0 0;
  divisions = get_or words 1 0;
  vertex = get_or words 2 0;
  vertices = get_or words 3 0;
  triangle = get_or words 4 0;
  triangles = get_or words 5 0;
}

-- "1 + 6B": the words of a table of B bodies, which is where the next entry begins
abbrev pub table_words : ℕ → ℕ
table_words B = 1 + entry_words * B

-- entry j of a table
abbrev pub entry_in : List ℕ → ℕ → Entry
entry_in T j = entry_from (part (table_words j) entry_words T)

-- the first B entries of a table
abbrev pub entries_in : List ℕ → ℕ → List Entry
entries_in T B = blocks B (λ j. entry_in T j ∷ [])

-- the words of a list of entries, one after the other
abbrev pub all_words : List Entry → List ℕ
all_words es = flat_map words_of es

-- what a list of entries adds up to: how many there are, their vertices and their triangles
abbrev pub entry_totals : List Entry → Totals
entry_totals es = record {
  bodies = length es;
  vertices = sum_by (λ (e : Entry). e.vertices) es;
  triangles = sum_by (λ (e : Entry). e.triangles) es;
}
