-- Each turn of the loop stores one word behind the last.
use Rattle.std.proofs.Common.{◌≡◌, List, [], ◌∷◌, ℕ, ◌+◌, ◌*◌, get_or}
use Rattle.laws.specs.Overwrite.{overwrite}
use Rattle.laws.specs.Blocks.{blocks}
use Rattle.little_endian.specs.Words.{word_of}
use Rattle.little_endian.proofs.read_words.Given as goal

-- word i
abbrev pub word : List ℕ → ℕ → ℕ
word bytes i =
    word_of (get_or bytes (4 * i) 0) (get_or bytes (4 * i + 1) 0) (get_or bytes (4 * i + 2) 0) (get_or bytes (4 * i + 3) 0)

abbrev pub invariant-loop-i : goal.invariant-loop-i
invariant-loop-i l = l.out ≡ overwrite 0 (blocks l.i (λ k. word l.bytes k ∷ [])) l.initial.out
