-- Each turn of the loop puts the bytes of one word behind those of the last.
use Rattle.std.proofs.Common.{◌≡◌, List, ℕ, get_or}
use Rattle.laws.specs.Overwrite.{overwrite}
use Rattle.laws.specs.Blocks.{blocks}
use Rattle.little_endian.specs.Words.{bytes_of}
use Rattle.little_endian.proofs.write_words.Given as goal

-- the bytes of word i
abbrev pub here : List ℕ → ℕ → List ℕ
here words i = bytes_of (get_or words i 0)

abbrev pub invariant-loop-i : goal.invariant-loop-i
invariant-loop-i l = l.out ≡ overwrite 0 (blocks l.i (here l.words)) l.initial.out
