-- A set's file is no longer than the buffers that it is made in, so that all of its words, and all
-- of their bytes, are there. Assumes nothing.
use Rattle.std.proofs.Common.{◌≡◌, refl, sym, ap, ◌∙◌, Bool, true, false, cond, List, [], ◌++◌, map}
use Rattle.std.proofs.Common.{ℕ, ◌-◌, ◌*◌, ◌/◌, ◌≤◌, min, arith, le-leb, leb, to_bits, length}
use Rattle.std.proofs.Common.{get_or, take, drop, length-append, length-drop, length-take}
use Rattle.std.specs.Float.{binary32}
use Rattle.std.proofs.lemmas.List.{length-map}
use Rattle.laws.specs.Parts.{part}
use Rattle.laws.specs.Overwrite.{overwrite, placed}
use Rattle.laws.proofs.Blocks.{length-blocks}
use Rattle.laws.proofs.Lent.{part-written}
use Rattle.set_table.specs.Entries.{entry_words, all_words, entry_totals}
use Rattle.set_table.specs.Table.{totals_in, undamaged}
use Rattle.set_table.specs.Buffers.{Buffers}
use Rattle.set_table.proofs.Words.{table-words}
use Rattle.set_table.proofs.Tables.{undamaged-reads}
use Rattle.set_file.specs.File.{file_head, file_body, entries_held, floats_held, indices_held, file_in}
use Rattle.little_endian.specs.Words.{bytes_of, bytes_in}
use Rattle.sweep.specs.File.{file_words}

-- the lengths of the three buffers
pub record Sized (s : Buffers) : Type 0 where
  pub table : 385 ≡ length s.table
  pub vertices : 12288 ≡ length s.vertices
  pub triangles : 12288 ≡ length s.triangles

-- a part of a list is no longer than what it is taken from
length-of-part : {A : Type 0} (at count : ℕ) (xs : List A) → length (part at count xs) ≤ length xs - at
length-of-part at count xs = omega (arith, length-take count (drop at xs), length-drop at xs)

file-bound : (s : Buffers) → Sized s → undamaged s.table (length s.vertices) (length s.triangles) ≡ true
    → length (file_in (totals_in s.table) s) ≤ 24964
file-bound s sized sound =
    let t = totals_in s.table in
    let told = (undamaged-reads s.table (length s.vertices) (length s.triangles) sound).1 in
    let entries = entries_held t s in
    let floats = map (to_bits binary32) (floats_held t s) in
    let indices = indices_held t s in
    omega (
      arith,
      sized.table,
      sized.vertices,
      sized.triangles,
      length-append (file_head (entry_totals entries)) (file_body entries (floats_held t s) indices),
      length-append (all_words entries) (floats ++ indices),
      length-append floats indices,
      length-map (floats_held t s) (to_bits binary32),
      ap length (table-words s.table t.bodies told.held),
      length-of-part 1 (entry_words * t.bodies) s.table,
      length-of-part 0 (3 * t.vertices) s.vertices,
      length-of-part 0 (3 * t.triangles) s.triangles,
    )

most-words : (s : Buffers) → Sized s → length (file_words s) ≤ 24964
unfolding file_words
most-words s sized = by (undamaged s.table (length s.vertices) (length s.triangles)) refl where
  file : List ℕ
  file = file_in (totals_in s.table) s

  by : (there : Bool) → undamaged s.table (length s.vertices) (length s.triangles) ≡ there
      → length (file_words s) ≤ 24964
  by true e = omega (arith, file-bound s sized e, ap (λ (b : Bool). length (cond b file [])) e)
  by false e = omega (arith, ap (λ (b : Bool). length (cond b file [])) e)

length-bytes : (ws : List ℕ) → length (bytes_in ws) ≡ 4 * length ws
length-bytes ws = omega (arith, length-blocks 4 (length ws) (λ i. bytes_of (get_or ws i 0)) (λ i h. refl))

-- bytes that a buffer has room for are at its front once they are written
bytes-written : (ws old : List ℕ) {bytes : List ℕ} {r : Bool} → 4 * length ws ≤ length old
    → r ≡ leb (length ws) (length old / 4) → bytes ≡ placed r (bytes_in ws) old → take (4 * length ws) bytes ≡ bytes_in ws
bytes-written ws old {bytes} room is written =
    let has : length ws ≤ length old / 4 = omega arith in
    ap (take (4 * length ws)) (written ∙ ap (λ (b : Bool). placed b (bytes_in ws) old) (is ∙ le-leb (length ws) (length old / 4) has))
    ∙ part-written 0 (4 * length ws) (bytes_in ws) old (length-bytes ws) (omega arith)

-- what is written to standard output
pub all-bytes : (s : Buffers) (old old' : List ℕ) {words bytes : List ℕ} {r : Bool} {count : ℕ} → Sized s
    → count ≡ min (length (file_words s)) (length old) → words ≡ overwrite 0 (file_words s) old
    → r ≡ leb (length (take count words)) (length old' / 4) → bytes ≡ placed r (bytes_in (take count words)) old'
    → 24964 ≡ length old → 99856 ≡ length old'
    → take (4 * count) bytes ≡ bytes_in (file_words s)
all-bytes s old old' {words} {bytes} {r} {count} sized is filled has written room room' =
    let file = file_words s in
    let all : length file ≡ count = omega (arith, most-words s sized) in
    let front : take count words ≡ file = ap (take count) filled ∙ part-written 0 count file old all (omega arith) in
    ap (λ (k : ℕ). take (4 * k) bytes) (sym all)
    ∙ bytes-written file old' (omega arith) (has ∙ ap (λ (ws : List ℕ). leb (length ws) (length old' / 4)) front)
    (written ∙ ap (λ (ws : List ℕ). placed r (bytes_in ws) old') front)
