-- The laws of a list made of blocks, and of every loop that writes one. Assumes nothing.
use Rattle.std.specs.Prelude.{◌≡◌, refl, List, [], ◌∷◌, ◌++◌, map, ℕ, zero, suc, ◌+◌, ◌-◌, ◌*◌, ◌≤◌, ◌<◌}
use Rattle.std.specs.Prelude.{length, get_or, take, set}
use Rattle.std.proofs.Common.{sym, ap, ◌∙◌, append-nil, append_assoc, ⊎_elim, suc-mul, zero-add, add-zero}
use Rattle.std.proofs.Common.{add-suc, not-suc-le-zero, le_of_suc-le-suc, eq-or-lt_of_le, add-one, arith}
use Rattle.std.proofs.Common.{length-append, take-suc, get_or-append-add}
use Rattle.std.proofs.lemmas.List.{map-append}
use Rattle.std.proofs.Math.ListN.{get_or-append}
use Rattle.laws.specs.Overwrite.{overwrite}
use Rattle.laws.proofs.Overwrite.{written_behind, one_store}
use Rattle.laws.specs.Sums.{sum_below}
use Rattle.laws.proofs.Sums.{sum-within}
use Rattle.laws.specs.Blocks.{blocks}

module _ {ℓ} {A : Type ℓ} where
  pub length-blocks : (c n : ℕ) (f : ℕ → List A) → ((k : ℕ) → k < n → length (f k) ≡ c) → length (blocks n f) ≡ n * c
  length-blocks c zero f h = omega arith
  length-blocks c (suc n) f h =
      length-append (blocks n f) (f n)
      ∙ ap (λ (k : ℕ). k + length (f n)) (length-blocks c n f (λ k l. h k (omega arith)))
      ∙ ap (λ (k : ℕ). n * c + k) (h n (omega arith))
      ∙ sym (suc-mul n c)

  pub blocks-cong : (n : ℕ) (f g : ℕ → List A) → ((k : ℕ) → k < n → f k ≡ g k) → blocks n f ≡ blocks n g
  blocks-cong zero f g h = refl
  blocks-cong (suc n) f g h =
      ap (λ (l : List A). l ++ f n) (blocks-cong n f g (λ k l. h k (omega arith)))
      ∙ ap (λ (l : List A). blocks n g ++ l) (h n (omega arith))

  -- the first block, followed by the others
  pub blocks-first : (n : ℕ) (f : ℕ → List A) → blocks (n + 1) f ≡ f 0 ++ blocks n (λ k. f (k + 1))
  blocks-first zero f = sym (append-nil (f 0))
  blocks-first (suc n) f =
      ap (λ (k : ℕ). blocks k f) (add-one (suc n))
      ∙ ap (λ (k : ℕ). blocks k f ++ f k) (sym (add-one n))
      ∙ ap (λ (l : List A). l ++ f (n + 1)) (blocks-first n f)
      ∙ append_assoc (f 0) (blocks n (λ k. f (k + 1))) (f (n + 1))

  -- the first block, the inner ones and the last
  pub blocks-ends : (m : ℕ) (f : ℕ → List A) → 1 ≤ m → blocks (m + 1) f ≡ f 0
      ++ (blocks (m - 1) (λ k. f (k + 1)) ++ f m)
  blocks-ends m f h =
      let e : m - 1 + 1 ≡ m = omega arith in
      ap (λ (k : ℕ). blocks k f) (add-one m)
      ∙ ap (λ (l : List A). l ++ f m) (ap (λ (k : ℕ). blocks k f) (sym e) ∙ blocks-first (m - 1) f)
      ∙ append_assoc (f 0) (blocks (m - 1) (λ k. f (k + 1))) (f m)

  -- the first m blocks, followed by the others
  pub blocks-split : (m k : ℕ) (f : ℕ → List A) → blocks (m + k) f ≡ blocks m f ++ blocks k (λ j. f (m + j))
  blocks-split m zero f = ap (λ (n : ℕ). blocks n f) (add-zero m) ∙ sym (append-nil (blocks m f))
  blocks-split m (suc k) f =
      ap (λ (n : ℕ). blocks n f) (add-suc m k)
      ∙ ap (λ (l : List A). l ++ f (m + k)) (blocks-split m k f)
      ∙ append_assoc (blocks m f) (blocks k (λ j. f (m + j))) (f (m + k))

  -- Element k of block i: it stands k past the blocks before it, whatever their lengths are.
  pub length-sum : (n : ℕ) (f : ℕ → List A) → length (blocks n f) ≡ sum_below n (λ k. length (f k))
  length-sum zero f = refl
  length-sum (suc n) f = length-append (blocks n f) (f n) ∙ ap (λ (k : ℕ). k + length (f n)) (length-sum n f)

  pub get_or-block : (n : ℕ) (f : ℕ → List A) (i k p : ℕ) (d : A) → i < n → k < length (f i)
      → p ≡ sum_below i (λ j. length (f j)) + k
      → get_or (blocks n f) p d ≡ get_or (f i) k d
  get_or-block zero f i k p d h l is = absurd (not-suc-le-zero h)
  get_or-block (suc n) f i k p d h l is =
      let size : ℕ → ℕ = λ j. length (f j) in
      let before = length-sum n f in
      ⊎_elim
      (λ last. ap (λ (m : ℕ). get_or (blocks n f ++ f n) m d)
      (is ∙ (λ j. sum_below (last j) size + k) ∙ ap (λ (m : ℕ). m + k) (sym before))
      ∙ get_or-append-add (blocks n f) (f n) k d
      ∙ ap (λ (m : ℕ). get_or (f m) k d) (sym last))
      (λ lower. get_or-append (blocks n f) (f n) d p (omega (arith, before, sum-within size i n lower))
      ∙ get_or-block n f i k p d lower l is)
      (eq-or-lt_of_le (le_of_suc-le-suc h))

  -- the same where each block has c elements
  pub get_or-blocks : (c n : ℕ) (f : ℕ → List A) (i k p : ℕ) (d : A) → ((j : ℕ) → length (f j) ≡ c) → i < n → k < c
      → p ≡ i * c + k
      → get_or (blocks n f) p d ≡ get_or (f i) k d
  get_or-blocks c n f i k p d sized h l is =
      get_or-block n f i k p d h (omega (arith, sized i))
      (is ∙ ap (λ (m : ℕ). m + k) (sym (length-blocks c i f (λ j _. sized j)) ∙ length-sum i f))

  -- a list is its elements, one after the other
  pub elements : (l : List A) (d : A) (n : ℕ) → n ≤ length l → blocks n (λ k. get_or l k d ∷ []) ≡ take n l
  elements l d zero h = refl
  elements l d (suc n) h = ap (λ (t : List A). t ++ (get_or l n d ∷ [])) (elements l d n (omega arith))
      ∙ sym (take-suc l n d h)

  -- A turn of a loop that writes blocks of c elements: it finds t, in which i blocks are written,
  -- writes v at p, and leaves t'.
  pub one_more : (at i c : ℕ) (f : ℕ → List A) (t₀ : List A) {t t' v : List A} {p : ℕ}
      → ((k : ℕ) → k < i → length (f k) ≡ c)
      → t ≡ overwrite at (blocks i f) t₀ → p ≡ at + i * c → t' ≡ overwrite p v t → v ≡ f i
      → t' ≡ overwrite at (blocks (i + 1) f) t₀
  one_more at i c f t₀ {t} sized before place written is =
      written_behind at (blocks i f) (f i) t₀ before (length-blocks c i f sized)
      (written ∙ (λ j. overwrite (place j) (is j) t))
      ∙ ap (λ (k : ℕ). overwrite at (blocks k f) t₀) (sym (add-one i))

  -- the same of a turn that writes k blocks at once
  pub some_more : (at i k c : ℕ) (f : ℕ → List A) (t₀ : List A) {t t' v : List A} {p : ℕ}
      → ((j : ℕ) → j < i → length (f j) ≡ c)
      → t ≡ overwrite at (blocks i f) t₀ → p ≡ at + i * c → t' ≡ overwrite p v t → v ≡ blocks k (λ j. f (i + j))
      → t' ≡ overwrite at (blocks (i + k) f) t₀
  some_more at i k c f t₀ {t} sized before place written is =
      written_behind at (blocks i f) (blocks k (λ j. f (i + j))) t₀ before (length-blocks c i f sized)
      (written ∙ (λ j. overwrite (place j) (is j) t))
      ∙ ap (λ (l : List A). overwrite at l t₀) (sym (blocks-split i k f))

  -- what such a loop leaves, once its count is n
  pub all-written : (at : ℕ) (f : ℕ → List A) (t₀ : List A) {t : List A} {i n : ℕ} → t ≡ overwrite at (blocks i f) t₀
      → i ≡ n → t ≡ overwrite at (blocks n f) t₀
  all-written at f t₀ {t} {i} {n} so e = so ∙ ap (λ (k : ℕ). overwrite at (blocks k f) t₀) e

  -- a turn of a loop that stores element i at place i
  pub store_more : (i : ℕ) (f : ℕ → A) (t₀ : List A) {t : List A} {v : A}
      → t ≡ overwrite 0 (blocks i (λ k. f k ∷ [])) t₀ → v ≡ f i → set t i v ≡ overwrite 0 (blocks (i + 1) (λ k. f k ∷ [])) t₀
  store_more i f t₀ {t} {v} before is =
      one_more 0 i 1 (λ k. f k ∷ []) t₀ (λ k h. refl) before (omega arith) (one_store i v t) (ap (λ (x : A). x ∷ []) is)

  -- what is left after block 0, v, was written, and then the others
  pub first-and-others : (n c : ℕ) (f : ℕ → List A) (t₀ : List A) {t t' v : List A} → 1 ≤ n → length (f 0) ≡ c
      → t ≡ overwrite 0 v t₀ → v ≡ f 0 → t' ≡ overwrite c (blocks (n - 1) (λ k. f (k + 1))) t
      → t' ≡ overwrite 0 (blocks n f) t₀
  first-and-others n c f t₀ {t} h sized first is others =
      let e : n - 1 + 1 ≡ n = omega arith in
      let rest = blocks (n - 1) (λ k. f (k + 1)) in
      written_behind 0 (f 0) rest t₀ (first ∙ ap (λ (w : List A). overwrite 0 w t₀) is) sized
      (others ∙ ap (λ (k : ℕ). overwrite k rest t) (sym (zero-add c)))
      ∙ ap (λ (l : List A). overwrite 0 l t₀) (sym (blocks-first (n - 1) f) ∙ ap (λ (k : ℕ). blocks k f) e)

  -- what is left after the first block, v, was written, then the inner ones, then the last one, w
  pub ends-written : (m a b : ℕ) (f : ℕ → List A) (t₀ : List A) {t₁ t₂ t₃ v w : List A} {p : ℕ} → 1 ≤ m
      → length (f 0) ≡ a
      → length (blocks (m - 1) (λ k. f (k + 1))) ≡ b → t₁ ≡ overwrite 0 v t₀ → v ≡ f 0
      → t₂ ≡ overwrite a (blocks (m - 1) (λ k. f (k + 1))) t₁
      → t₃ ≡ overwrite p w t₂ → p ≡ a + b → w ≡ f m → t₃ ≡ overwrite 0 (blocks (m + 1) f) t₀
  ends-written m a b f t₀ {t₁} {t₂} h first-sized inner-sized first is inner last place is' =
      let rest = blocks (m - 1) (λ k. f (k + 1)) in
      written_behind 0 (f 0) (rest ++ f m) t₀ (first ∙ ap (λ (l : List A). overwrite 0 l t₀) is) first-sized
      (written_behind (0 + a) rest (f m) t₁ (inner ∙ ap (λ (k : ℕ). overwrite k rest t₁) (sym (zero-add a)))
      inner-sized
      (last ∙ (λ j. overwrite ((place ∙ ap (λ (k : ℕ). k + b) (sym (zero-add a))) j) (is' j) t₂)))
      ∙ ap (λ (l : List A). overwrite 0 l t₀) (sym (blocks-ends m f h))

module _ {ℓ ℓ'} {A : Type ℓ} {B : Type ℓ'} where
  pub map-blocks : (h : A → B) (n : ℕ) (f : ℕ → List A) → map h (blocks n f) ≡ blocks n (λ k. map h (f k))
  map-blocks h zero f = refl
  map-blocks h (suc n) f = map-append h (blocks n f) (f n) ∙ ap (λ (l : List B). l ++ map h (f n)) (map-blocks h n f)

  -- what a loop that makes element i of element i leaves
  pub blocks-map : (f : A → B) (l : List A) (d : A) → blocks (length l) (λ i. f (get_or l i d) ∷ []) ≡ map f l
  blocks-map f [] d = refl
  blocks-map f (x ∷ l) d =
      let made : ℕ → List B = λ k. f (get_or (x ∷ l) k d) ∷ [] in
      let next : ℕ → List B = λ k. f (get_or l k d) ∷ [] in
      ap (λ (n : ℕ). blocks n made) (sym (add-one (length l)))
      ∙ blocks-first (length l) made
      ∙ ap (λ (r : List B). f x ∷ r) (blocks-cong (length l) (λ k. made (k + 1)) next (λ k h. ap made (add-one k))
      ∙ blocks-map f l d)

  -- what a loop leaves that stores f of each element of a list, once its count is the list's length
  pub all_stored : (f : A → B) (l : List A) (d : A) (t₀ : List B) {t : List B} {i : ℕ}
      → t ≡ overwrite 0 (blocks i (λ k. f (get_or l k d) ∷ [])) t₀ → i ≡ length l → t ≡ overwrite 0 (map f l) t₀
  all_stored f l d t₀ so e =
      all-written 0 (λ k. f (get_or l k d) ∷ []) t₀ so e ∙ ap (λ (new : List B). overwrite 0 new t₀) (blocks-map f l d)
