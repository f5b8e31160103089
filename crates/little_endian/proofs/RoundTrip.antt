-- The bytes of words below 2^32 are read back as these words. Assumes nothing.
use Rattle.std.proofs.Common.{◌≡◌, refl, ap, ◌∙◌, List, [], ◌∷◌, ℕ, ◌+◌, ◌*◌, ◌/◌, ◌%◌, ◌^◌, ◌<◌, length, get_or}
use Rattle.std.proofs.Common.{take_all, le_refl, arith}
use Rattle.std.proofs.lemmas.Nat.{from_le_bytes-to_le_bytes_4}
use Rattle.laws.specs.Blocks.{blocks}
use Rattle.laws.proofs.Blocks.{length-blocks, blocks-cong, get_or-blocks, elements}
use Rattle.little_endian.specs.Words.{word_of, word_at, words_in, bytes_of, bytes_in}

word_back : (w : ℕ) → w < 2 ^ 32 → word_of (w % 256) (w / 256 % 256) (w / 65536 % 256) (w / 16777216 % 256) ≡ w
word_back w h = omega (arith, from_le_bytes-to_le_bytes_4 w h)

module _ (words : List ℕ) (small : (k : ℕ) → k < length words → get_or words k 0 < 2 ^ 32) where
  -- the bytes of word i
  abbrev here : ℕ → List ℕ
  here i = bytes_of (get_or words i 0)

  word-there : (i : ℕ) → i < length words → word_at (bytes_in words) (4 * i) ≡ get_or words i 0 ∷ []
  word-there i h =
      let at = 4 * i in
      let byte : (k p : ℕ) → k < 4 → p ≡ i * 4 + k → get_or (bytes_in words) p 0 ≡ get_or (here i) k 0 =
      λ k p l is. get_or-blocks 4 (length words) here i k p 0 (λ j. refl) h l is in
      let b0 = byte 0 at (omega arith) (omega arith) in
      let b1 = byte 1 (at + 1) (omega arith) (omega arith) in
      let b2 = byte 2 (at + 2) (omega arith) (omega arith) in
      let b3 = byte 3 (at + 3) (omega arith) (omega arith) in
      (λ j. word_of (b0 j) (b1 j) (b2 j) (b3 j) ∷ []) ∙ ap (λ (w : ℕ). w ∷ []) (word_back (get_or words i 0) (small i h))

  pub words_back : words_in (bytes_in words) ≡ words
  words_back =
      let n = length words in
      let count : length (bytes_in words) / 4 ≡ n = omega (arith, length-blocks 4 n here (λ k h. refl)) in
      let there : ℕ → List ℕ = λ i. word_at (bytes_in words) (4 * i) in
      ap (λ (k : ℕ). blocks k there) count
      ∙ blocks-cong n there (λ i. get_or words i 0 ∷ []) word-there
      ∙ elements words 0 n (omega arith)
      ∙ take_all n words (le_refl n)
