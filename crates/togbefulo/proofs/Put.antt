-- What C is handed of an answer whose words were put in place of the old ones. Assumes nothing.
use Rattle.std.proofs.Common.{◌≡◌, ◌∙◌, sym, ℕ, List, length, Result, Ok, Err, MatchResult, IsOkAnd}
use Rattle.laws.proofs.Overlaps.{overwrite-all}
use Rattle.answers.specs.Answers.{answer_of}
use Rattle.answers.specs.declared.refusal.Refusal.{Refusal}
use Rattle.togbefulo.specs.Face.{words_after}

pub words_put : {A : Type 0} (words : A → List ℕ) (told : Result A Refusal) (mapped : Result (List ℕ) Refusal) (old new : List ℕ)
    → MatchResult told (λ a. IsOkAnd mapped (λ w. w ≡ words a)) (λ why. mapped ≡ Err why)
    → MatchResult mapped (λ w. new ≡ w) (λ _. new ≡ old)
    → ((a : A) → length (words a) ≡ length old)
    → new ≡ words_after words (answer_of told) old
words_put words (Ok a) (Ok w) old new is put long = put ∙ is ∙ sym (overwrite-all (words a) old (long a))
words_put words (Ok a) (Err why) old new is put long = absurd is
words_put words (Err why) (Ok w) old new is put long = cc
words_put words (Err why) (Err other) old new is put long = put
