-- "little-endian 32-bit words" (document 01, 'The shared set'), in bytes. Definitions only.
use Rattle.std.specs.Prelude.{List, [], ◌∷◌, ℕ, ◌+◌, ◌*◌, ◌/◌, ◌%◌, length, get_or}
use Rattle.laws.specs.Blocks.{blocks}

-- the word of four bytes, the lowest first
abbrev pub word_of : ℕ → ℕ → ℕ → ℕ → ℕ
word_of a b c d = a + 256 * (b + 256 * (c + 256 * d))

-- the word whose bytes begin at a place, as a list of one
abbrev pub word_at : List ℕ → ℕ → List ℕ
word_at bytes at =
    word_of (get_or bytes at 0) (get_or bytes (at + 1) 0) (get_or bytes (at + 2) 0) (get_or bytes (at + 3) 0) ∷ []

-- the whole words of a list of bytes
abbrev pub words_in : List ℕ → List ℕ
words_in bytes = blocks (length bytes / 4) (λ i. word_at bytes (4 * i))

-- the four bytes of a word
abbrev pub bytes_of : ℕ → List ℕ
bytes_of w = w % 256 ∷ w / 256 % 256 ∷ w / 65536 % 256 ∷ w / 16777216 % 256 ∷ []

abbrev pub bytes_in : List ℕ → List ℕ
bytes_in words = blocks (length words) (λ i. bytes_of (get_or words i 0))
