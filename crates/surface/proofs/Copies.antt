-- Copies within a buffer: what they read, and what they leave. Assumes nothing.
use Rattle.std.proofs.Common.{◌≡◌, refl, sym, ap, ◌∙◌, List, [], ◌∷◌, ◌++◌, ℕ, zero, suc, ◌+◌, ◌-◌, ◌*◌}
use Rattle.std.proofs.Common.{◌≤◌, arith, length, take, drop, add-zero, zero-add, take_at}
use Rattle.std.proofs.lemmas.List.{length-map}
use Rattle.laws.specs.Overwrite.{overwrite}
use Rattle.laws.proofs.Overwrite.{overwrite-none}
use Rattle.laws.proofs.Lent.{overwrite-part, part-written}
use Rattle.laws.specs.Blocks.{blocks}
use Rattle.laws.proofs.Blocks.{length-blocks, blocks-cong, blocks-split, map-blocks, some_more}
use Rattle.surface.specs.Raise.{raised, copy_of}

-- what a list begins with, written there, changes nothing
pub front-kept : (size : ℕ) (l : List ℕ) → l ≡ overwrite 0 (take size l) l
front-kept zero l = sym (overwrite-none 0 l)
front-kept (suc size) [] = refl
front-kept (suc size) (n ∷ l) = ap (λ (r : List ℕ). n ∷ r) (front-kept size l)

-- ---- copies of a list

pub copy-none : (rise : ℕ) (l : List ℕ) → copy_of rise l 0 ≡ l
copy-none rise [] = refl
copy-none rise (n ∷ l) = let e : 0 * rise + n ≡ n = omega arith in λ i. e i ∷ copy-none rise l i

-- copy k, raised as often as there are copies between, is a later copy
copy-later : (rise count k : ℕ) (l : List ℕ) → raised (count * rise) (copy_of rise l k) ≡ copy_of rise l (k + count)
copy-later rise count k [] = refl
copy-later rise count k (n ∷ l) =
    let e : count * rise + (k * rise + n) ≡ (k + count) * rise + n =
    omega arith in λ i. e i ∷ copy-later rise count k l i

module _ (size rise : ℕ) (l t₀ : List ℕ) (sized : length l ≡ size) where
  length-copies : (n : ℕ) → length (blocks n (copy_of rise l)) ≡ n * size
  length-copies n = length-blocks size n (copy_of rise l) (λ k _. length-map l (λ n. k * rise + n) ∙ sized)

  -- where `done` copies are written, the first `count` of them, raised by `done` rises, are the
  -- next copies
  pub next-copies : (done count : ℕ) {t : List ℕ} → count ≤ done
      → t ≡ overwrite 0 (blocks done (copy_of rise l)) t₀ → done * size ≤ length t₀
      → raised (done * rise) (take (count * size) (take (done * size) t)) ≡ blocks count (λ k. copy_of rise l (done + k))
  next-copies done count {t} some written h =
      let f = copy_of rise l in
      let all : count + (done - count) ≡ done = omega arith in
      let made : take (done * size) t ≡ blocks count f ++ blocks (done - count) (λ k. f (count + k)) =
      ap (λ (r : List ℕ). take (done * size) r) written
      ∙ part-written 0 (done * size) (blocks done f) t₀ (length-copies done) (omega arith)
      ∙ ap (λ (k : ℕ). blocks k f) (sym all)
      ∙ blocks-split count (done - count) f in
      ap (λ (r : List ℕ). raised (done * rise) (take (count * size) r)) made
      ∙ ap (λ (r : List ℕ). raised (done * rise) r)
      (take_at (blocks count f) (blocks (done - count) (λ k. f (count + k))) (count * size) (length-copies count))
      ∙ map-blocks (λ n. done * rise + n) count f
      ∙ blocks-cong count (λ k. raised (done * rise) (f k)) (λ k. f (done + k))
      (λ k _. copy-later rise done k l ∙ ap (λ (i : ℕ). f i) (omega arith))

  -- written behind the others, they and the others are one list
  pub copies-after : (done count : ℕ) {t ys v : List ℕ}
      → t ≡ overwrite 0 (blocks done (copy_of rise l)) t₀ → ys ≡ overwrite 0 v (drop (done * size) t)
      → v ≡ blocks count (λ k. copy_of rise l (done + k))
      → take (done * size) t ++ ys ≡ overwrite 0 (blocks (done + count) (copy_of rise l)) t₀
  copies-after done count {t} {v = v} before written is =
      some_more 0 done count size (copy_of rise l) t₀ (λ k _. length-map l (λ n. k * rise + n) ∙ sized) before
      (add-zero (done * size) ∙ sym (zero-add (done * size)))
      (ap (λ (r : List ℕ). take (done * size) t ++ r) written ∙ overwrite-part (done * size) 0 v t)
      is
