-- Each turn reads one entry more. 64 counts below 2^32 do not wrap a usize. Assumes nothing.
use Rattle.std.proofs.Common.{◌≡◌, refl, sym, subst, ℕ, ◌+◌, ◌≤◌, ◌<◌, Bool, ◌&&◌, Some, None, List, [], ◌∷◌, length, arith}
use Rattle.std.proofs.lemmas.Result.{err_from_is_err_and}
use Rattle.answers.specs.Answers.{first_of, test}
use Rattle.answers.specs.declared.refusal.Refusal.TheVariants.{DamagedTable}
use Rattle.surface.specs.Limits.{fits}
use Rattle.set_table.specs.Entries.{table_words}
use Rattle.set_table.specs.Room.{most_bodies}
use Rattle.set_table.specs.Table.{bodies_in, bodies_read, reading_of}
use Rattle.set_table.specs.declared.totals.Totals.{Totals}
use Rattle.set_table.proofs.Tables.{head-unread, head-read, head-bounds, Summed, summed-next, head-damaged, entry-damaged}
use Rattle.set_table.proofs.Tables.{summed-read, both_fit}
use Rattle.set_table.proofs.table.read.Goals as goal

-- a turn's entry stands in the table
turn : (T : List ℕ) {j B : ℕ} → Some B ≡ bodies_read T → j < B → (j < most_bodies) × (table_words (j + 1) ≤ length T)
turn T head h =
    let read = head-read T head in
    let bounds = head-bounds T read.0 in
    (omega arith, omega arith)

-- after the loop all entries are added up, and the tests of the totals answer
answer : (T : List ℕ) (vertices triangles : ℕ) {t : Totals} {B j : ℕ} {p : Bool} → Some B ≡ bodies_read T
    → B ≤ j → j ≤ B → Summed T j t → p ≡ both_fit vertices triangles t
    → first_of (test 1 p ∷ []) t ≡ reading_of T vertices triangles
answer T vertices triangles {t} {B} {j} head past within all is =
    let read = head-read T head in
    let last : j ≡ bodies_in T = omega arith in
    summed-read T vertices triangles read.0 (subst (λ (k : ℕ). Summed T k t) last all) is

pub returns-in_err-bodies : goal.returns-in_err-bodies
returns-in_err-bodies c =
    let a = c.args in
    let p = err_from_is_err_and c.from_residual.result c.from_residual.ensures.1 in
    let none : None ≡ bodies_read c.args.table.now = grind arith in
    let damaged : p.0 ≡ DamagedTable = grind arith in
    rw (p.1, damaged) (head-damaged a.table.now a.vertices a.triangles (head-unread a.table.now none))

pub read_entry-entry-requires : goal.read_entry-entry-requires
read_entry-entry-requires c =
    let some : Some c.in_ok-bodies.bodies ≡ bodies_read c.args.table.now = grind arith in
    let bounds = turn c.args.table.now some c.loop-j-test.true in
    record { j_lt_most_bodies = bounds.0; j_in_bounds = bounds.1 }

pub returns-then-not-is_entry_sound : goal.returns-then-not-is_entry_sound
returns-then-not-is_entry_sound c =
    let a = c.args in
    let some : Some c.in_ok-bodies.bodies ≡ bodies_read a.table.now = grind arith in
    let read = head-read a.table.now some in
    entry-damaged a.table.now a.vertices a.triangles c.loop-j.j c.loop-j.invariant.0 (omega arith)
    c.read_entry-entry.ensures (sym c.if-not-is_entry_sound.ensures)

pub loop-j-init : goal.loop-j-init
loop-j-init c =
    let zero = c.default-totals.ensures in
    let none : Summed c.args.table.now 0 c.default-totals.result = record {
      totals = λ i. record { bodies = zero.0 i; vertices = zero.1.0 i; triangles = zero.1.1 i };
      sound = refl;
    } in
    (none, zero.0, omega arith, omega arith)

pub loop-j-preserved : goal.loop-j-preserved
loop-j-preserved c =
    (summed-next _ _ c.loop-j.invariant.0 c.read_entry-entry.ensures (sym c.if-not-is_entry_sound.ensures), omega arith, omega arith, omega arith)

pub returns-then-not-fits : goal.returns-then-not-fits
returns-then-not-fits c =
    let a = c.args in
    answer a.table.now a.vertices a.triangles (grind arith) c.loop-j-test.false c.loop-j.auto.j-end
    c.loop-j.invariant.0 (λ i. c.if-not-fits.ensures i && fits c.loop-j.totals.triangles a.triangles)

pub returns-then-not-fits-2 : goal.returns-then-not-fits-2
returns-then-not-fits-2 c =
    let a = c.args in
    answer a.table.now a.vertices a.triangles (grind arith) c.loop-j-test.false c.loop-j.auto.j-end
    c.loop-j.invariant.0 (λ i. c.if-not-fits.ensures i && c.if-not-fits-2.ensures i)

pub returns : goal.returns
returns c =
    let a = c.args in
    answer a.table.now a.vertices a.triangles (grind arith) c.loop-j-test.false c.loop-j.auto.j-end
    c.loop-j.invariant.0 (λ i. c.if-not-fits.ensures i && c.if-not-fits-2.ensures i)
