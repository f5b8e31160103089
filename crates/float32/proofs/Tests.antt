-- A test of each value of a list, when one value is added at its end; and of the values that a fold
-- goes over. Assumes nothing.
use Rattle.std.proofs.Common.{◌≡◌, refl, sym, ap, ◌∙◌, ℕ, ◌<◌, Bool, true, ◌&&◌, List, [], ◌∷◌, ◌++◌, length, length-append, get_or, Float, add-one, Bor, Iter}
use Rattle.std.proofs.Math.ListN.{get_or-append}
use Rattle.std.proofs.Math.Seq.{get_or-append_seam}
use Rattle.std.proofs.lemmas.Fn.{fold_over, fronts, slice_gives}
use denote.Param.Members.{Called, Mut}
use Rattle.std.specs.Float.{nan}
use Rattle.std.specs.List.{FoldsTo}
use Rattle.std.specs.Iterator.{Drains}
use Rattle.laws.specs.Every.{every}
use Rattle.laws.proofs.Every.{every-cong}

-- whether all of a list pass
abbrev pub all_pass : (Float → Bool) → List Float → Bool
all_pass test l = every (length l) (λ i. test (get_or l i nan))

pub test-more : (test : Float → Bool) (l : List Float) (x : Float)
    → all_pass test (l ++ x ∷ []) ≡ (all_pass test l && test x)
test-more test l x =
    ap (λ (n : ℕ). every n now) (length-append l (x ∷ []) ∙ add-one (length l))
    ∙ (λ i. every-cong (length l) now (λ k. test (get_or l k nan)) below i && test (get_or-append_seam l x [] nan i))
  where
    now : ℕ → Bool
    now k = test (get_or (l ++ x ∷ []) k nan)

    below : (k : ℕ) → k < length l → now k ≡ test (get_or l k nan)
    below k h = ap test (get_or-append l (x ∷ []) nan k h)

-- What a `fold` over a slice answers, from true on, whose closure keeps whether each value passed.
module _ {F : Type 0} (g : Mut F (Bool × (Bor Float × Unit {0})) Bool) (f : F) (test : Float → Bool)
    (step : (a : Bool) (x : Bor Float) (b : Bool) (f' : F) → Called g f (a, (x, tt)) b f' → (b ≡ (a && test x.now)) × (f' ≡ f)) where
  pub all-folded : (s : Iter Float) (r : Bool)
      → (xs : List (Bor Float)) × (f' : F) × Drains fronts s xs
      × FoldsTo {P = F × Bool} (λ p x q. Called g p.0 (p.1, (x, tt)) q.1 q.0) (f, true) xs (f', r)
      → r ≡ all_pass test s.rest.now
  all-folded s r ran =
      fold_over fronts (λ (y : Bor Float). y.now) g (λ ys a. a ≡ all_pass test ys) f
      (λ ys a x b f' before call.
      let kept = step a x b f' call in
      (kept.0 ∙ ap (λ (t : Bool). t && test x.now) before ∙ sym (test-more test ys x.now), kept.1))
      s s.rest.now true r (slice_gives s) refl ran
