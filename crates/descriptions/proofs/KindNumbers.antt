-- The kind numbers of a record and of an entry are the same. Assumes nothing.
use Rattle.std.proofs.Common.{◌≡◌, refl, ap, ◌∙◌, Bool, true, ℕ, arith, eqb-true, Float}
use Rattle.std.proofs.Common.{Some, Result, Ok, Err}
use Rattle.std.specs.Result.{is_ok}
use Rattle.kinds.specs.Limits.{between}
use Rattle.descriptions.specs.KindNumbers.{kind_of, number_of, kind_number, kind_numbered, last_kind}
use Rattle.descriptions.specs.KindNumbers.{description_of, described_with, described_of}
use Rattle.descriptions.specs.declared.description.Description.{Description}
use Rattle.descriptions.specs.declared.description.Description.TheVariants.{Ribbon, Tube, Capsule, Torus}
use Rattle.descriptions.specs.declared.description.Description.TheVariants.{ClosedCylinder, SeamlessTorus}
use Rattle.descriptions.specs.declared.kind.Kind.{Kind}
use Rattle.descriptions.specs.declared.kind.Kind.TheVariants as kinds
use Rattle.descriptions.specs.declared.kind.UnknownKind.{UnknownKind}
use Rattle.descriptions.specs.declared.sizes.Sizes.{Sizes}

-- the kind that has a number has that number
pub numbered : (n : ℕ) {kind : Kind} → kind_numbered n ≡ Ok kind → number_of kind ≡ n
unfolding kind_numbered
numbered n h = grind (arith, eqb-true)

-- a description made for a kind is of that kind
kind-made : (kind : Kind) (sizes : Sizes) → kind_of (description_of kind sizes) ≡ kind
kind-made kinds.Ribbon sizes = refl
kind-made kinds.Tube sizes = refl
kind-made kinds.Capsule sizes = refl
kind-made kinds.Torus sizes = refl
kind-made kinds.ClosedCylinder sizes = refl
kind-made kinds.SeamlessTorus sizes = refl

told-with : (n : ℕ) (sizes : Sizes) (kind : Result Kind UnknownKind) {d : Description}
    → kind_numbered n ≡ kind → described_with sizes kind ≡ Some d → kind_number d ≡ n
told-with n sizes (Ok kind) {d} is h =
    let same : d ≡ description_of kind sizes = cc in
    ap kind_number same ∙ ap number_of (kind-made kind sizes) ∙ numbered n is
told-with n sizes (Err unknown) is h = let z : ◌≡◌ {A = ℕ} 0 1 = cc in absurd (omega arith)

-- a description made from a kind's number has that number
pub kind-told : (kind n L : ℕ) (centred : Bool) (size length : Float) {d : Description}
    → described_of kind n L centred size length ≡ Some d
    → kind_number d ≡ kind
unfolding described_of
kind-told kind n L centred size length = told-with kind _ (kind_numbered kind) refl

-- the numbers that a kind has are those from 1 to the last
pub kind-known : (n : ℕ) → is_ok (kind_numbered n) ≡ between 1 last_kind n
unfolding kind_numbered
kind-known n = grind (arith, eqb-true)

-- every description's is one that a sound entry may have
pub kind-between : (d : Description) → between 1 last_kind (kind_number d) ≡ true
kind-between (Ribbon w) = refl
kind-between (Tube n r) = refl
kind-between (Capsule n L r) = refl
kind-between (Torus n r) = refl
kind-between (ClosedCylinder n S centred r l) = refl
kind-between (SeamlessTorus n r) = refl
