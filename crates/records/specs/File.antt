-- From records to the file: "The file is little-endian 32-bit words: 1, B, total vertices, total
-- triangles, the entries, all vertex bits, all triangles. Program `sweep` reads records of such
-- words .. and writes the file" (document 01, 'The shared set'). The theorem is `file-of-build` in
-- proofs/File.antt. Definitions only.
use Rattle.std.specs.Prelude.{◌≡◌, List, ℕ}
use Rattle.answers.specs.Answers.{accepted}
use Rattle.set_table.specs.Buffers.{Buffers}
use Rattle.shared_set.specs.Set.{clear_answer}
use Rattle.set_file.specs.File.{word_in, file_word_of}
use Rattle.ledger.specs.Demand3.{ledger_of}
use Rattle.ledger.specs.File.{set_file}
use Rattle.records.specs.Records.{additions_in}
use Rattle.records.specs.Built.{built_of}

-- Any records, any buffers whose clear is accepted, any place: in what `build` leaves, file word
-- reads the word of the ledger's file there, or 5 at or past its end.
abbrev pub FileOfBuild : Type 0
FileOfBuild = (records answers : List ℕ) (s : Buffers) → clear_answer s.table ≡ accepted tt
    → (place : ℕ)
    → file_word_of (built_of records answers s).left place ≡ word_in (set_file (ledger_of s (additions_in records))) place
