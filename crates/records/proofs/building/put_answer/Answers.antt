-- One number is stored, or would fall past the end, or there is none. Assumes nothing.
use Rattle.std.proofs.Common.{◌≡◌, sym, ap, ◌∙◌, [], ◌∷◌, ℕ}
use Rattle.laws.specs.Overwrite.{overwrite}
use Rattle.laws.proofs.Overwrite.{overwrite-none, overwrite-past, one_store}
use Rattle.answers.specs.Answers.{number_in, answer_of}
use Rattle.records.proofs.building.put_answer.Goals as goal
use Rattle.records.proofs.building.put_answer.Goals.{then-i-answers, else-i-answers}

pub returns-in_default-clause-answers_after : goal.returns-in_default-clause-answers_after
returns-in_default-clause-answers_after c = rw c.in_default.is (sym (overwrite-none c.args.i c.args.answers.now))

pub returns-clause-answers_after : goal.returns-clause-answers_after
returns-clause-answers_after c =
    let a = c.args in
    let number = number_in (answer_of c.in-Some.answer) in
    let stored : c.if-i-answers.answers ≡ overwrite a.i (number ∷ []) a.answers.now =
    elim c.if-i-answers.branch [
      | then-i-answers w ↦
          w.answers-is ∙ one_store a.i w.number.result a.answers.now
          ∙ ap (λ (n : ℕ). overwrite a.i (n ∷ []) a.answers.now) w.number.ensures
      | else-i-answers w ↦ w.answers-is ∙ overwrite-past a.i (number ∷ []) a.answers.now w.if-i-answers.false
    ] in
    rw c.in-Some.is stored
