-- What making a call again comes to, each time that a signal interrupts it. Definitions only.
use Rattle.std.specs.Prelude.{◌≡◌, ◌⊎◌, ℕ, List, Result, Ok, Err}
use Rattle.std.specs.List.{FoldsTo}
use Rattle.std.specs.IoError.{error_kind}
use Rattle.std.specs.declared.io.Error.{Error}
use Rattle.std.specs.declared.io.ErrorKind.TheVariants.{Interrupted}

-- a call, which `step` describes, was interrupted
abbrev pub WasInterrupted : {F : Type 0} → (F → Result ℕ Error → F → Type 0) → F → Error → F → Type 0
WasInterrupted step f error f' = step f (Err error) f' × (error_kind error ≡ Interrupted)

-- the last call, or, where signals interrupt for ever, none
abbrev pub LastCall : {F : Type 0} → (F → Result ℕ Error → F → Type 0) → F → Result ℕ Error → F → Type 0
LastCall step f (Ok count) f' = step f (Ok count) f'
LastCall step f (Err error) f' = step f (Err error) f' ⊎ (f' ≡ f)

-- calls that were interrupted, and then the last, which gave the result
pub record MadeAgain {F : Type 0} (step : F → Result ℕ Error → F → Type 0) (f : F) (result : Result ℕ Error) (f' : F) : Type 0 where
  pub errors : List Error
  pub last : F
  pub interrupted : FoldsTo (WasInterrupted step) f errors last
  pub ends : LastCall step last result f'
