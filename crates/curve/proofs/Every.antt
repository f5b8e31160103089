-- What `all` says of the numbers below n is what `every` says of them. Assumes nothing.
use Rattle.std.proofs.Common.{◌≡◌, ◌∙◌, refl, sym, ap, List, [], ◌∷◌, ◌++◌, Bool, true, ◌&&◌}
use Rattle.std.proofs.Common.{ℕ, zero, suc, ◌+◌, zero-add, add-zero, arith}
use Rattle.std.proofs.Math.Bool.{and-true}
use Rattle.std.specs.Fn.{Called}
use Rattle.std.specs.Iterator.{ChecksAll}
use Rattle.std.proofs.iter.Yields.{nat_range_steps}
use Rattle.std.proofs.lemmas.Iterator.{YieldsList-from_range}
use Rattle.std.proofs.lemmas.Iterator.Search.{all_from_yields_List}
use Rattle.std.specs.declared.ops.Range.{Range}
use denote.Param.Members.{Mut}
use Rattle.std.specs.List.{list_all, range_with_len}
use Rattle.std.proofs.lemmas.List.Folds.{list_all-append}
use Rattle.laws.specs.Every.{every}

-- a range of numbers, and its last one
range_last : (a n : ℕ) → range_with_len a (suc n) ≡ range_with_len a n ++ (a + n) ∷ []
range_last a zero = ap (λ (k : ℕ). k ∷ []) (sym (add-zero a))
range_last a (suc n) =
    let place : a + 1 + n ≡ a + suc n = omega arith in
    ap (λ (l : List ℕ). a ∷ l) (range_last (a + 1) n)
    ∙ ap (λ (k : ℕ). a ∷ (range_with_len (a + 1) n ++ k ∷ [])) place

every-range : (n : ℕ) (f : ℕ → Bool) → list_all f (range_with_len 0 n) ≡ every n f
every-range zero f = refl
every-range (suc n) f =
    ap (list_all f) (range_last 0 n)
    ∙ list_all-append f (range_with_len 0 n) ((0 + n) ∷ [])
    ∙ ap (λ (b : Bool). b && (f (0 + n) && true)) (every-range n f)
    ∙ ap (λ (b : Bool). every n f && b) (and-true (f (0 + n)) ∙ ap f (zero-add n))

-- what `(0..n).all(..)` answers, where the closure is a test of each number
module _ {F : Type 0} {g : Mut F (ℕ × Unit {0}) Bool} where
  pub every_checked : (n : ℕ) (test : ℕ → Bool) {f : F} {u : Range ℕ} {r : Bool}
      → ChecksAll nat_range_steps g (record { start = 0; end = n }) f r u
      → ((k : ℕ) (b : Bool) (q : F) → Called g f (k, tt) b q → (q ≡ f) × (b ≡ test k)) → r ≡ every n test
  every_checked n test {f} {u} {r} ran tests =
      all_from_yields_List test u f r ran (YieldsList-from_range 0 n n refl (omega arith)) tests ∙ every-range n test
