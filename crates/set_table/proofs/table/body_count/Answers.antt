-- Word 0 is the number of bodies, where the head is sound. Assumes nothing.
use Rattle.std.proofs.Common.{◌≡◌, refl, ◌∙◌, ℕ, Bool, Some, None, List, [], ◌∷◌, length, le-leb, arith}
use Rattle.std.specs.List.{slice_get}
use Rattle.std.specs.Bool.{then_some}
use Rattle.set_table.specs.Table.{entries_fit, head_sound, bodies_read}
use Rattle.set_table.proofs.table.body_count.Goals as goal

no_word : (T : List ℕ) → None ≡ slice_get T 0 → None ≡ bodies_read T
unfolding head_sound
no_word [] h = refl
no_word (x ∷ T) h = cc

first_word : (T : List ℕ) {B : ℕ} {p : Bool} → Some B ≡ slice_get T 0 → p ≡ entries_fit B (length T)
    → then_some p B ≡ bodies_read T
unfolding head_sound
first_word [] h is = cc
first_word (x ∷ T) {B} {p} h is =
    let same : B ≡ x = cc in
    (λ i. then_some (is i) (same i)) ∙ rw (same, le-leb 1 (length (x ∷ T)) (omega arith))

pub returns-in_err-bodies : goal.returns-in_err-bodies
returns-in_err-bodies c = c.from_residual.ensures ∙ no_word c.args.table.now c.in_err-bodies.ensures.value

pub returns : goal.returns
returns c =
    c.then_some.ensures ∙ first_word c.args.table.now c.in_ok-bodies.ensures.value c.are_entries_held.ensures
