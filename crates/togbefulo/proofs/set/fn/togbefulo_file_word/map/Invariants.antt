-- The words that a word becomes.
use Rattle.std.proofs.Common.{◌≡◌, [], ◌∷◌}
use Rattle.togbefulo.proofs.set.fn.togbefulo_file_word.map.Given as goal

abbrev pub ensures : goal.ensures
ensures l r = r ≡ l.w ∷ []
