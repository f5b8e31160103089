-- One word is as many as C lends room for.
use Rattle.std.proofs.Common.{sym, ℕ, [], ◌∷◌}
use Rattle.togbefulo.proofs.Put.{words_put}
use Rattle.togbefulo.proofs.set.togbefulo_file_word.Goals as goal

pub returns-clause-word_after : goal.returns-clause-word_after
returns-clause-word_after c =
    let put = words_put (λ (w : ℕ). w ∷ []) c.file_word-answer.result c.map.result c.args.word.now c.put.new.out c.map.ensures.cases c.put.ensures.out_after (λ w. sym c.told-word) in
    rw (sym c.file_word-answer.ensures) put
