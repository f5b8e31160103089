-- Writes that cover each other, or do not meet, and what a write at the front leaves. Assumes
-- nothing.
use Rattle.std.specs.Prelude.{◌≡◌, refl, List, [], ◌∷◌, ◌++◌, ℕ, zero, suc, ◌+◌, ◌≤◌, length, drop}
use Rattle.std.proofs.Common.{sym, ap, subst, suc-add, add-suc, not-suc-le-zero, le_of_suc-le-suc, arith}
use Rattle.laws.specs.Overwrite.{overwrite}
use Rattle.laws.proofs.Overwrite.{overwrite-none}

module _ {ℓ} {A : Type ℓ} where
  -- a write that is no shorter covers one at the same place
  pub overwrite-cover : (at : ℕ) (new more old : List A) → length new ≤ length more
      → overwrite at more (overwrite at new old) ≡ overwrite at more old
  overwrite-cover zero new more [] h = refl
  overwrite-cover zero [] more (x ∷ old) h = refl
  overwrite-cover zero (y ∷ new) [] (x ∷ old) h = absurd (not-suc-le-zero h)
  overwrite-cover zero (y ∷ new) (z ∷ more) (x ∷ old) h =
      ap (λ (r : List A). z ∷ r) (overwrite-cover zero new more old (le_of_suc-le-suc h))
  overwrite-cover (suc at) new more [] h = refl
  overwrite-cover (suc at) new more (x ∷ old) h = ap (λ (r : List A). x ∷ r) (overwrite-cover at new more old h)

  -- the first element is written over
  pub overwrite-head : (a b : A) (new old : List A)
      → overwrite 0 (a ∷ []) (overwrite 0 (b ∷ new) old) ≡ overwrite 0 (a ∷ new) old
  overwrite-head a b new [] = refl
  overwrite-head a b new (x ∷ old) = ap (λ (r : List A). a ∷ r) (overwrite-none 0 (overwrite 0 new old))

  -- writes that do not meet may change their order
  pub overwrite-swap : (at at' : ℕ) (new new' old : List A) → at + length new ≤ at'
      → overwrite at' new' (overwrite at new old) ≡ overwrite at new (overwrite at' new' old)
  overwrite-swap at zero new new' [] h = refl
  overwrite-swap at (suc at') new new' [] h = refl
  overwrite-swap zero zero [] new' (x ∷ old) h = sym (overwrite-none zero (overwrite zero new' (x ∷ old)))
  overwrite-swap zero zero (y ∷ new) new' (x ∷ old) h =
      absurd (not-suc-le-zero (subst (λ (k : ℕ). k ≤ zero) (add-suc zero (length new)) h))
  overwrite-swap zero (suc at') [] new' (x ∷ old) h = refl
  overwrite-swap zero (suc at') (y ∷ new) new' (x ∷ old) h =
      ap (λ (r : List A). y ∷ r)
      (overwrite-swap zero at' new new' old (le_of_suc-le-suc (subst (λ (k : ℕ). k ≤ suc at') (add-suc zero (length new)) h)))
  overwrite-swap (suc at) zero new new' (x ∷ old) h =
      absurd (not-suc-le-zero (subst (λ (k : ℕ). k ≤ zero) (suc-add at (length new)) h))
  overwrite-swap (suc at) (suc at') new new' (x ∷ old) h =
      ap (λ (r : List A). x ∷ r)
      (overwrite-swap at at' new new' old (le_of_suc-le-suc (subst (λ (k : ℕ). k ≤ suc at') (suc-add at (length new)) h)))

  -- a write at the front leaves the new list, whole, and then what was past it
  pub overwrite-front : (new old : List A) → length new ≤ length old
      → overwrite 0 new old ≡ new ++ drop (length new) old
  overwrite-front [] [] h = refl
  overwrite-front [] (x ∷ old) h = refl
  overwrite-front (y ∷ new) [] h = absurd (not-suc-le-zero h)
  overwrite-front (y ∷ new) (x ∷ old) h = ap (λ (r : List A). y ∷ r) (overwrite-front new old (le_of_suc-le-suc h))

  -- a write as long as the list leaves nothing of it
  pub overwrite-all : (new old : List A) → length new ≡ length old → overwrite 0 new old ≡ new
  overwrite-all [] [] h = refl
  overwrite-all [] (x ∷ old) h = absurd (omega arith)
  overwrite-all (y ∷ new) [] h = absurd (omega arith)
  overwrite-all (y ∷ new) (x ∷ old) h = ap (λ (r : List A). y ∷ r) (overwrite-all new old (omega arith))
