-- The file of the ledger's set, and the claim that it is what file word reads in buffers that hold
-- the ledger, among them those that a clear and any list of additions leave (document 01, 'The
-- shared set'). The theorem is `file-of-set` in proofs/File.antt. Definitions only.
use Rattle.std.specs.Prelude.{◌≡◌, List, ℕ}
use Rattle.answers.specs.Answers.{accepted}
use Rattle.set_table.specs.Buffers.{Buffers}
use Rattle.shared_set.specs.Set.{clear_answer}
use Rattle.set_file.specs.File.{file_of, word_in, file_word_of}
use Rattle.ledger.specs.Ledger.{Ledger, entries_of, set_vertices, set_triangles}
use Rattle.ledger.specs.Calls.{Call, clear_and_add}
use Rattle.ledger.specs.Holds.{Holds}
use Rattle.ledger.specs.Demand3.{ledger_of}

-- "1, B, total vertices, total triangles, the entries, all vertex bits, all triangles"
abbrev pub set_file : Ledger → List ℕ
set_file L = file_of (entries_of L) (set_vertices L) (set_triangles L)

-- The word of the ledger's file at any place, or 5 at or past its end: of any ledger that buffers
-- hold, and after a clear that is accepted and any list of additions.
pub record FileOfSet : Type 0 where
  pub held : (s : Buffers) (L : Ledger) → Holds s L → (place : ℕ) → file_word_of s place ≡ word_in (set_file L) place
  pub clear : (s : Buffers) (list : List Call) → clear_answer s.table ≡ accepted tt
      → (place : ℕ) → file_word_of (clear_and_add list s).left place ≡ word_in (set_file (ledger_of s list)) place
