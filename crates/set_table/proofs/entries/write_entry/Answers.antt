-- The entry's words, copied to their place in the table, are one write, and word 0 is another.
-- Assumes nothing.
use Rattle.std.proofs.Common.{◌≡◌, ap, ◌∙◌, ℕ, ◌+◌, ◌-◌, List, length, slice_set, arith}
use Rattle.laws.specs.Overwrite.{overwrite}
use Rattle.laws.proofs.Overwrite.{one_store}
use Rattle.laws.proofs.Lent.{lent-part}
use Rattle.set_table.specs.Entries.{words_of, table_words}
use Rattle.set_table.proofs.entries.write_entry.Goals as goal

pub returns : goal.returns
returns c =
    let a = c.args in
    let T = a.table.now in
    let at = c.table_words-at.result in
    let words = c.copy_from_slice.new.self in
    let place : at ≡ table_words a.bodies = c.table_words-at.ensures in
    let are : words ≡ words_of a.entry = c.copy_from_slice.ensures.after ∙ c.into-words.ensures in
    let size : 6 ≡ at + 6 - at = omega arith in
    ap (λ (t : List ℕ). slice_set t 0 (a.bodies + 1))
    (lent-part at (at + 6 - at) words T (ap length are ∙ size) (omega arith) ∙ (λ i. overwrite (place i) (are i) T))
    ∙ one_store 0 (a.bodies + 1) (overwrite (table_words a.bodies) (words_of a.entry) T)
