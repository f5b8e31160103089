-- The words that the counts become.
use Rattle.std.proofs.Common.{◌≡◌}
use Rattle.descriptions.specs.Refusals.{count_words}
use Rattle.togbefulo.proofs.alone.fn.togbefulo_counts.map.Given as goal

abbrev pub ensures : goal.ensures
ensures l r = r ≡ count_words l.k
