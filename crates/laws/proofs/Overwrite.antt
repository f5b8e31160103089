-- The laws of a write: what it keeps, writes one behind the other, and each element after it.
-- Assumes nothing.
use Rattle.std.specs.Prelude.{◌≡◌, refl, List, [], ◌∷◌, ◌++◌, ℕ, zero, suc, ◌+◌, ◌≤◌, ◌<◌}
use Rattle.std.specs.Prelude.{length, get_or, set}
use Rattle.std.proofs.Common.{sym, ap, ◌∙◌, subst, suc-add, add-suc, zero-add, not-suc-le-zero, le_of_suc-le-suc}
use Rattle.std.proofs.Math.Numerals.{towards_suc}
use Rattle.std.proofs.lemmas.List.Edits.{sets}
use Rattle.laws.specs.Overwrite.{overwrite}

module _ {ℓ} {A : Type ℓ} where
  pub length-overwrite : (at : ℕ) (new old : List A) → length (overwrite at new old) ≡ length old
  length-overwrite zero new [] = refl
  length-overwrite zero [] (x ∷ old) = refl
  length-overwrite zero (y ∷ new) (x ∷ old) = ap suc (length-overwrite zero new old)
  length-overwrite (suc at) new [] = refl
  length-overwrite (suc at) new (x ∷ old) = ap suc (length-overwrite at new old)

  pub overwrite-none : (at : ℕ) (old : List A) → overwrite at [] old ≡ old
  overwrite-none zero [] = refl
  overwrite-none zero (x ∷ old) = refl
  overwrite-none (suc at) [] = refl
  overwrite-none (suc at) (x ∷ old) = ap (λ (r : List A). x ∷ r) (overwrite-none at old)

  -- the same the other way round: a loop that writes has written nothing before its first turn
  pub unwritten : (at : ℕ) (old : List A) → old ≡ overwrite at [] old
  unwritten at old = sym (overwrite-none at old)

  -- two writes, one behind the other, are one
  pub overwrite-append : (at : ℕ) (new more old : List A)
      → overwrite (at + length new) more (overwrite at new old) ≡ overwrite at (new ++ more) old
  overwrite-append zero new more [] = refl
  overwrite-append zero [] more (x ∷ old) = refl
  overwrite-append zero (y ∷ new) more (x ∷ old) =
      ap (λ (k : ℕ). overwrite k more (y ∷ overwrite zero new old)) (add-suc zero (length new))
      ∙ ap (λ (r : List A). y ∷ r) (overwrite-append zero new more old)
  overwrite-append (suc at) new more [] = refl
  overwrite-append (suc at) new more (x ∷ old) =
      ap (λ (k : ℕ). overwrite k more (x ∷ overwrite at new old)) (suc-add at (length new))
      ∙ ap (λ (r : List A). x ∷ r) (overwrite-append at new more old)

  -- the same, as code that makes the two writes finds it
  pub written_behind : (at : ℕ) (new more t₀ : List A) {t t' : List A} {k : ℕ}
      → t ≡ overwrite at new t₀ → length new ≡ k → t' ≡ overwrite (at + k) more t → t' ≡ overwrite at (new ++ more) t₀
  written_behind at new more t₀ first sized second =
      second ∙ (λ i. overwrite (at + sym sized i) more (first i)) ∙ overwrite-append at new more t₀

  -- three writes, each behind the one before it
  pub three-written : (x y z t₀ : List A) {t₁ t₂ t₃ : List A} {a b : ℕ}
      → t₁ ≡ overwrite 0 x t₀ → length x ≡ a → t₂ ≡ overwrite a y t₁ → length y ≡ b → t₃ ≡ overwrite (a + b) z t₂
      → t₃ ≡ overwrite 0 (x ++ (y ++ z)) t₀
  three-written x y z t₀ {t₁} {t₂} {a = a} {b = b} first sized second sized' third =
      written_behind 0 x (y ++ z) t₀ first sized
      (written_behind (0 + a) y z t₁ (second ∙ ap (λ (k : ℕ). overwrite k y t₁) (sym (zero-add a))) sized'
      (third ∙ ap (λ (k : ℕ). overwrite (k + b) z t₂) (sym (zero-add a))))

  -- a write whose first element is stored first
  overwrite-cons : (at : ℕ) (v : A) (vs old : List A) → overwrite (suc at) vs (set old at v) ≡ overwrite at (v ∷ vs) old
  overwrite-cons zero v vs [] = refl
  overwrite-cons zero v vs (x ∷ old) = refl
  overwrite-cons (suc at) v vs [] = refl
  overwrite-cons (suc at) v vs (x ∷ old) = ap (λ (r : List A). x ∷ r) (overwrite-cons at v vs old)

  -- past the end nothing is written
  pub overwrite-past : (at : ℕ) (new old : List A) → length old ≤ at → old ≡ overwrite at new old
  overwrite-past at new [] h = refl
  overwrite-past zero new (x ∷ old) h = absurd (not-suc-le-zero h)
  overwrite-past (suc at) new (x ∷ old) h = ap (λ (r : List A). x ∷ r) (overwrite-past at new old (le_of_suc-le-suc h))

  -- stores one after the other, as straight-line code makes them
  pub stores : (p : ℕ) (vs old : List A) → sets old p vs ≡ overwrite p vs old
  stores p [] old = sym (overwrite-none p old)
  stores p (v ∷ vs) old = stores (suc p) vs (set old p v) ∙ overwrite-cons p v vs old

  pub one_store : (p : ℕ) (v : A) (old : List A) → set old p v ≡ overwrite p (v ∷ []) old
  one_store p v old = stores p (v ∷ []) old

  pub three-stores : (p : ℕ) (a b c : A) (old : List A)
      → set (set (set old p a) (p + 1) b) (p + 2) c ≡ overwrite p (a ∷ b ∷ c ∷ []) old
  three-stores p a b c old = simp towards_suc (stores p (a ∷ b ∷ c ∷ []) old)

  -- each element after a write: before it, in it, past it
  pub get_or-before : (at : ℕ) (new old : List A) (k : ℕ) (d : A) → k < at
      → get_or (overwrite at new old) k d ≡ get_or old k d
  get_or-before zero new old k d h = absurd (not-suc-le-zero h)
  get_or-before (suc at) new [] k d h = refl
  get_or-before (suc at) new (x ∷ old) zero d h = refl
  get_or-before (suc at) new (x ∷ old) (suc k) d h = get_or-before at new old k d (le_of_suc-le-suc h)

  pub get_or-within : (at : ℕ) (new old : List A) (k : ℕ) (d : A) → k < length new → at + k < length old
      → get_or (overwrite at new old) (at + k) d ≡ get_or new k d
  get_or-within at new [] k d h r = absurd (not-suc-le-zero r)
  get_or-within zero [] (x ∷ old) k d h r = absurd (not-suc-le-zero h)
  get_or-within zero (y ∷ new) (x ∷ old) zero d h r = refl
  get_or-within zero (y ∷ new) (x ∷ old) (suc k) d h r =
      ap (λ (i : ℕ). get_or (y ∷ overwrite zero new old) i d) (add-suc zero k)
      ∙ get_or-within zero new old k d (le_of_suc-le-suc h) (le_of_suc-le-suc (subst (λ (i : ℕ). i < suc (length old)) (add-suc zero k) r))
  get_or-within (suc at) new (x ∷ old) k d h r =
      ap (λ (i : ℕ). get_or (x ∷ overwrite at new old) i d) (suc-add at k)
      ∙ get_or-within at new old k d h (le_of_suc-le-suc (subst (λ (i : ℕ). i < suc (length old)) (suc-add at k) r))

  pub get_or-past : (at : ℕ) (new old : List A) (k : ℕ) (d : A) → at + length new ≤ k
      → get_or (overwrite at new old) k d ≡ get_or old k d
  get_or-past at new [] k d h = refl
  get_or-past zero [] (x ∷ old) k d h = refl
  get_or-past zero (y ∷ new) (x ∷ old) zero d h =
      absurd (not-suc-le-zero (subst (λ (i : ℕ). i ≤ zero) (add-suc zero (length new)) h))
  get_or-past zero (y ∷ new) (x ∷ old) (suc k) d h =
      get_or-past zero new old k d (le_of_suc-le-suc (subst (λ (i : ℕ). i ≤ suc k) (add-suc zero (length new)) h))
  get_or-past (suc at) new (x ∷ old) zero d h =
      absurd (not-suc-le-zero (subst (λ (i : ℕ). i ≤ zero) (suc-add at (length new)) h))
  get_or-past (suc at) new (x ∷ old) (suc k) d h =
      get_or-past at new old k d (le_of_suc-le-suc (subst (λ (i : ℕ). i ≤ suc k) (suc-add at (length new)) h))
