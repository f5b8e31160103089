-- The words of bytes that were read in two parts, a head and what follows it. Assumes nothing.
use Rattle.std.proofs.Common.{◌≡◌, ℕ, ◌+◌, ◌*◌, ◌/◌, ◌<◌, List, [], ◌∷◌, ◌++◌, add-zero, ◌∙◌}
use Rattle.std.proofs.Common.{refl, ap, arith, length, get_or, length-append}
use Rattle.std.proofs.Common.{get_or-append-add}
use Rattle.std.proofs.Math.ListN.{get_or-append}
use Rattle.laws.specs.Blocks.{blocks}
use Rattle.laws.proofs.Blocks.{length-blocks, blocks-cong, blocks-split}
use Rattle.little_endian.specs.Words.{word_of, word_at, words_in}

pub length-words : (bytes : List ℕ) → length (words_in bytes) ≡ length bytes / 4
length-words bytes =
    let n = length bytes / 4 in
    omega (arith, length-blocks 1 n (λ i. word_at bytes (4 * i)) (λ i h. refl))

-- two words whose bytes are the same
word-same : (xs ys : List ℕ) (p q : ℕ) → ((k : ℕ) → k < 4 → get_or xs (p + k) 0 ≡ get_or ys (q + k) 0)
    → word_at xs p ≡ word_at ys q
word-same xs ys p q h =
    let b0 : get_or xs p 0 ≡ get_or ys q 0 = simp add-zero at (h 0 (omega arith)) in
    let b1 = h 1 (omega arith) in
    let b2 = h 2 (omega arith) in
    let b3 = h 3 (omega arith) in
    λ j. word_of (b0 j) (b1 j) (b2 j) (b3 j) ∷ []

-- bytes that are whole words, and others after them
pub words-append : (k : ℕ) (xs ys : List ℕ) → length xs ≡ 4 * k → words_in (xs ++ ys) ≡ words_in xs ++ words_in ys
words-append k xs ys sized =
    let all = xs ++ ys in
    let m = length ys / 4 in
    let count : length all / 4 ≡ k + m = omega (arith, length-append xs ys) in
    let first : k ≡ length xs / 4 = omega arith in
    let word : ℕ → List ℕ = λ i. word_at all (4 * i) in
    let front : (i : ℕ) → i < k → word i ≡ word_at xs (4 * i) =
    λ i h. word-same all xs (4 * i) (4 * i) (λ b l. get_or-append xs ys 0 (4 * i + b) (omega arith)) in
    let back : (i : ℕ) → i < m → word (k + i) ≡ word_at ys (4 * i) =
    λ i h. word-same all ys (4 * (k + i)) (4 * i) (λ b l. behind i b) in
    ap (λ (n : ℕ). blocks n word) count
    ∙ blocks-split k m word
    ∙ ap (λ (l : List ℕ). l ++ blocks m (λ i. word (k + i))) (blocks-cong k word (λ i. word_at xs (4 * i)) front ∙ ap (λ (n : ℕ). blocks n (λ i. word_at xs (4 * i))) first)
    ∙ ap (λ (l : List ℕ). words_in xs ++ l) (blocks-cong m (λ i. word (k + i)) (λ i. word_at ys (4 * i)) back)
  where
    behind : (i b : ℕ) → get_or (xs ++ ys) (4 * (k + i) + b) 0 ≡ get_or ys (4 * i + b) 0
    behind i b =
        let place : 4 * (k + i) + b ≡ length xs + (4 * i + b) = omega arith in
        ap (λ (n : ℕ). get_or (xs ++ ys) n 0) place ∙ get_or-append-add xs ys (4 * i + b) 0
