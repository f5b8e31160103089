-- What the calls leave after an accepted clear is the ledger's, by demand 3; an empty table is not
-- touched. Assumes nothing.
use Rattle.std.proofs.Common.{◌≡◌, refl, sym, ap, ◌∙◌, Bool, cond, List, [], ◌∷◌, ℕ, arith, le-leb, length}
use Rattle.std.proofs.lemmas.Result.{err_from_is_err_and}
use Rattle.laws.specs.Overwrite.{overwrite}
use Rattle.answers.specs.Answers.{Answer, refused, accepted}
use Rattle.set_table.specs.Buffers.{Buffers, buffers, lengths_of}
use Rattle.shared_set.specs.Set.{clear_answer, cleared}
use Rattle.ledger.specs.Ledger.{empty, replies_to}
use Rattle.ledger.specs.Calls.{Call, tell, Called, additions}
use Rattle.records.specs.Records.{additions_in}
use Rattle.records.specs.Built.{numbers_of, ledger_set, built, built_by}
use Rattle.records.proofs.Built.{all-added}
use Rattle.records.proofs.building.build.Goals as goal

-- a table that is not cleared is empty
untouched : (list : List Call) (answers : List ℕ) (s : Buffers) → (clear_answer s.table ≡ accepted tt → ⊥)
    → built (clear_answer s.table) answers (buffers (cleared s.table) s.vertices s.triangles)
    ≡ built_by (clear_answer s.table) list answers s
untouched list answers s refuses = by s.table refuses where
  by : (T : List ℕ) → (clear_answer T ≡ accepted tt → ⊥)
      → built (clear_answer T) answers (buffers (cleared T) s.vertices s.triangles)
      ≡ built_by (clear_answer T) list answers (buffers T s.vertices s.triangles)
  by [] refuses = refl
  by (x ∷ T) refuses =
      absurd (refuses (ap (λ (b : Bool). cond b (accepted tt) (refused 1)) (le-leb 1 (length (x ∷ T)) (omega arith))))

pub returns : goal.returns
returns c =
    let a = c.args in
    let s = buffers a.table.now a.vertices.now a.triangles.now in
    let list = additions_in a.records.now in
    let clear = c.in_ok-clear.ensures in
    let clears : clear_answer s.table ≡ accepted tt = sym clear.answer in
    let calls : additions list (buffers c.clear.new.table s.vertices s.triangles)
    ≡ record { answers = replies_to (lengths_of s) empty (tell list); left = ledger_set s list } =
    ap (λ (T : List ℕ). additions list (buffers T s.vertices s.triangles)) clear.table_after
    ∙ all-added s list clears in
    let left = c.add_all.ensures.set_after ∙ ap (λ (r : Called). r.left) calls in
    let answers = c.add_all.ensures.answers_after
    ∙ ap (λ (r : Called). overwrite 0 (numbers_of r.answers) a.answers.now) calls in
    (λ j. built (accepted tt) (answers j) (left j))
    ∙ ap (λ (answer : Answer (Unit {0})). built_by answer list a.answers.now s) (sym clears)

pub returns-in_err-clear : goal.returns-in_err-clear
returns-in_err-clear c =
    let a = c.args in
    let s = buffers a.table.now a.vertices.now a.triangles.now in
    let clear = c.in_err-clear.ensures in
    let p = err_from_is_err_and c.from_residual.result c.from_residual.ensures.1 in
    let refuses : clear_answer s.table ≡ accepted tt → ⊥ = λ ok. let both = clear.answer ∙ ok in cc in
    rw (p.1, p.2)
    ((λ j. built (clear.answer j) a.answers.now (buffers (clear.table_after j) s.vertices s.triangles))
    ∙ untouched (additions_in a.records.now) a.answers.now s refuses)
