-- In buffers that hold a ledger the file's words are those of the ledger's set. Assumes nothing.
use Rattle.std.proofs.Common.{◌≡◌, sym, ap, ◌∙◌, cond, List, ℕ, ◌*◌, ◌≤◌, arith, length}
use Rattle.laws.specs.Parts.{part}
use Rattle.laws.specs.Overwrite.{overwrite}
use Rattle.laws.proofs.Overlaps.{overwrite-front}
use Rattle.laws.proofs.Lent.{part-written}
use Rattle.answers.specs.Answers.{refused}
use Rattle.set_table.specs.Entries.{entries_in}
use Rattle.set_table.specs.Table.{totals_in, undamaged}
use Rattle.set_table.specs.Buffers.{Buffers}
use Rattle.set_table.specs.declared.totals.Totals.{Totals}
use Rattle.set_file.specs.File.{file_of, entries_held, floats_held, indices_held, file_in, word_in, file_word_of}
use Rattle.ledger.specs.Ledger.{Ledger, body_count, vertex_sum, triangle_sum, totals_of, entries_of, set_table}
use Rattle.ledger.specs.Ledger.{set_vertices, set_triangles}
use Rattle.ledger.specs.Holds.{begins_with, Holds}
use Rattle.ledger.specs.File.{set_file, FileOfSet}
use Rattle.ledger.proofs.Sizes.{length-table, length-set-vertices, length-set-triangles}
use Rattle.ledger.proofs.ReadBack.{entries-read, totals-read, not-damaged}
use Rattle.ledger.proofs.Demand3.{demand-3}

module _ (s : Buffers) (L : Ledger) (h : Holds s L) where
  -- a buffer that begins with a list, as one that it was written to
  written : {A : Type 0} (set held : List A) → held ≡ begins_with set held → length set ≤ length held
      → held ≡ overwrite 0 set held
  written set held begins room = begins ∙ sym (overwrite-front set held room)

  table-written : s.table ≡ overwrite 0 (set_table L) s.table
  table-written = written (set_table L) s.table h.table (omega (arith, length-table L, h.limits.entries))

  there : {A : Type 0} (set held : List A) (k : ℕ) → held ≡ begins_with set held → length set ≡ k
      → k ≤ length held → part 0 k held ≡ set
  there set held k begins sized room =
      ap (part 0 k) (written set held begins (omega (arith, sized))) ∙ part-written 0 k set held sized (omega arith)

  entries-there : entries_held (totals_of L) s ≡ entries_of L
  entries-there =
      ap (λ (T : List ℕ). entries_in T (body_count L)) table-written
      ∙ entries-read L s.table (length s.vertices) (length s.triangles) h.limits

  vertices-there : floats_held (totals_of L) s ≡ set_vertices L
  vertices-there = there (set_vertices L) s.vertices (3 * vertex_sum L) h.vertices (length-set-vertices L h.each) h.limits.vertices.1

  triangles-there : indices_held (totals_of L) s ≡ set_triangles L
  triangles-there = there (set_triangles L) s.triangles (3 * triangle_sum L) h.triangles (length-set-triangles L) h.limits.triangles.1

  told : totals_in s.table ≡ totals_of L
  told = ap totals_in table-written ∙ totals-read L s.table (length s.vertices) (length s.triangles) h.limits

  file-there : file_in (totals_in s.table) s ≡ set_file L
  file-there =
      ap (λ (t : Totals). file_in t s) told
      ∙ (λ j. file_of (entries-there j) (vertices-there j) (triangles-there j))

  -- any word of it
  words-there : (place : ℕ) → file_word_of s place ≡ word_in (set_file L) place
  words-there place =
      let fine =
      ap (λ (T : List ℕ). undamaged T (length s.vertices) (length s.triangles)) table-written
      ∙ not-damaged L s.table (length s.vertices) (length s.triangles) h.limits h.each in
      (λ j. cond (fine j) (word_in (file-there j) place) (refused 1))

-- THE FILE OF A SET
pub file-of-set : FileOfSet
file-of-set = record {
  held = words-there;
  clear = λ s list ok. words-there _ _ (demand-3.clear s list ok).holds;
}
