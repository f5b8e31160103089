-- The file of the set in the buffers, as words and as the bytes that go to standard output.
-- Definitions only.
use Rattle.std.specs.Prelude.{cond, List, [], ℕ, length}
use Rattle.set_table.specs.Table.{totals_in, undamaged}
use Rattle.set_table.specs.Buffers.{Buffers}
use Rattle.set_file.specs.File.{file_in}
use Rattle.little_endian.specs.Words.{bytes_in}

-- none if the table is damaged
unfoldable pub file_words : Buffers → List ℕ
file_words s =
    cond (undamaged s.table (length s.vertices) (length s.triangles)) (file_in (totals_in s.table) s) []

abbrev pub file_bytes : Buffers → List ℕ
file_bytes s = bytes_in (file_words s)
