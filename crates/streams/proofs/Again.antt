-- A call that is made again after each interruption: what no call changes is as it was, and what
-- no failed call changes is as it was when the last call is made. Assumes nothing.
use Rattle.std.proofs.Common.{ℕ, List, Option, Result, Ok, Err, MatchResult, ◌≡◌, ◌∙◌, refl, ⊎_elim, subst, sym, ap}
use Rattle.std.proofs.lemmas.Fn.{chained_keeps}
use Rattle.std.specs.declared.io.Error.{Error}
use Rattle.std.specs.Io.KnownBytes.{Keeps}
use Rattle.std.proofs.KnownBytes.{Keeps-refl, Keeps-trans}
use Rattle.streams.specs.Again.{WasInterrupted, LastCall, MadeAgain}

module _ {F : Type 0} {step : F → Result ℕ Error → F → Type 0} {f f' : F} {result : Result ℕ Error}
    (made : MadeAgain step f result f')
  where
    -- what every call keeps
    module _ {X : Type 0} (part : F → X) (keeps : (p : F) (r : Result ℕ Error) (q : F) → step p r q → part p ≡ part q) where
      at_last : (r : Result ℕ Error) (last : F) → part f ≡ part last → LastCall step last r f' → part f ≡ part f'
      at_last (Ok count) last same ends = same ∙ keeps last (Ok count) f' ends
      at_last (Err error) last same ends =
          ⊎_elim (λ told. same ∙ keeps last (Err error) f' told) (λ is. same ∙ ap part (sym is)) ends

      pub unchanged : part f ≡ part f'
      unchanged =
          let still = chained_keeps (WasInterrupted step) (λ _ q. part f ≡ part q) (λ xs p error q h told. h ∙ keeps p (Err error) q told.0) made.errors f made.last refl made.interrupted in
          at_last result made.last still made.ends

    -- what every call that fails keeps
    module _ (Kept : F → Type 0) (keeps : (p : F) (error : Error) (q : F) → step p (Err error) q → Kept p → Kept q)
        (P : ℕ → Type 0) (by : (last : F) (count : ℕ) → step last (Ok count) f' → Kept last → P count)
      where
        ended : (r : Result ℕ Error) (last : F) → Kept last → LastCall step last r f' → MatchResult r P (λ _. Kept f')
        ended (Ok count) last kept ends = by last count ends kept
        ended (Err error) last kept ends =
            ⊎_elim (λ told. keeps last error f' told kept) (λ same. subst Kept (sym same) kept) ends

        pub made_again : Kept f → MatchResult result P (λ _. Kept f')
        made_again kept =
            let still = chained_keeps (WasInterrupted step) (λ _ q. Kept q) (λ xs p error q h told. keeps p error q told.0 h) made.errors f made.last kept made.interrupted in
            ended result made.last still made.ends

    -- what only the call that succeeds says
    pub last_told : (P : ℕ → Type 0) → ((last : F) (count : ℕ) → step last (Ok count) f' → P count) → MatchResult result P (λ _. Unit {0})
    last_told P by = made_again (λ _. Unit {0}) (λ p error q told kept. tt) P (λ last count told kept. by last count told) tt

    -- known bytes, which every call that fails keeps
    module _ (known : F → Option (List ℕ)) (keeps : (p : F) (error : Error) (q : F) → step p (Err error) q → Keeps (known p) (known q)) where
      pub known_again : (P : ℕ → Type 0) → ((last : F) (count : ℕ) → step last (Ok count) f' → Keeps (known f) (known last) → P count) → MatchResult result P (λ _. Keeps (known f) (known f'))
      known_again P by =
          made_again (λ p. Keeps (known f) (known p)) (λ p error q told kept. Keeps-trans _ _ _ kept (keeps p error q told)) P by (Keeps-refl _)
