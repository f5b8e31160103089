-- What a loop writes that goes over the numbers from 1 on, one block for each, behind block 0. The
-- loops over the vertices between two segments are such loops. Assumes nothing.
use Rattle.std.proofs.Common.{◌≡◌, sym, ap, ◌∙◌, List, ℕ, ◌+◌, ◌-◌, ◌*◌, ◌≤◌, length, arith}
use Rattle.laws.specs.Blocks.{blocks}
use Rattle.laws.specs.Overwrite.{overwrite}
use Rattle.laws.proofs.Blocks.{one_more, all-written}

module _ {ℓ} {A : Type ℓ} where
  -- the blocks 1 to n
  abbrev pub later : ℕ → (ℕ → List A) → List A
  later n f = blocks n (λ k. f (k + 1))

  -- Turn g of the loop, which writes blocks of c elements: it finds t, writes v at p, and leaves t'.
  pub one_later : (at g c : ℕ) (f : ℕ → List A) (t₀ : List A) {t t' v : List A} {p : ℕ}
      → ((k : ℕ) → length (f k) ≡ c) → 1 ≤ g
      → t ≡ overwrite at (later (g - 1) f) t₀ → p ≡ at + (g - 1) * c → t' ≡ overwrite p v t → v ≡ f g
      → t' ≡ overwrite at (later (g + 1 - 1) f) t₀
  one_later at g c f t₀ sized h before place written is =
      let here : g - 1 + 1 ≡ g = omega arith in
      let next : g - 1 + 1 ≡ g + 1 - 1 = omega arith in
      all-written at (λ k. f (k + 1)) t₀
      (one_more at (g - 1) c (λ k. f (k + 1)) t₀ (λ k l. sized (k + 1)) before place written (is ∙ ap f (sym here))) next

  -- what the loop leaves, once its number is n
  pub all_later : (at : ℕ) (f : ℕ → List A) (t₀ : List A) {t : List A} {g n : ℕ}
      → t ≡ overwrite at (later (g - 1) f) t₀ → g ≡ n → t ≡ overwrite at (later (n - 1) f) t₀
  all_later at f t₀ so e = all-written at (λ k. f (k + 1)) t₀ so (ap (λ (k : ℕ). k - 1) e)
