-- Each turn of the loop stores one word of the file after the last, until none is left, or no
-- room. Assumes nothing.
use Rattle.sweep.specs.Set.{held}
use Rattle.sweep.specs.File.{file_words}
use Rattle.sweep.proofs.Filled.{Filled}
use Rattle.sweep.proofs.output.fill_file.Given as goal

abbrev pub invariant-loop-i : goal.invariant-loop-i
invariant-loop-i l = Filled (file_words (held l.set)) l.fn.words l.i l.words
