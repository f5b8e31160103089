-- Kinds by their numbers, as document 01, 'The shared set', has them in records and in entries.
-- Definitions only.
use Rattle.std.specs.Prelude.{Bool, cond, ℕ, eqb, Float, Option, Some, None, Result, Ok, Err, List, codes}
use Rattle.descriptions.specs.declared.description.Description.{Description}
use Rattle.descriptions.specs.declared.description.Description.TheVariants.{Ribbon, Tube, Capsule, Torus}
use Rattle.descriptions.specs.declared.description.Description.TheVariants.{ClosedCylinder, SeamlessTorus}
use Rattle.descriptions.specs.declared.kind.Kind.{Kind}
use Rattle.descriptions.specs.declared.kind.Kind.TheVariants as kinds
use Rattle.descriptions.specs.declared.kind.UnknownKind.{UnknownKind}
use Rattle.descriptions.specs.declared.sizes.Sizes.{Sizes}

abbrev pub kind_of : Description → Kind
kind_of (Ribbon w) = kinds.Ribbon
kind_of (Tube n r) = kinds.Tube
kind_of (Capsule n L r) = kinds.Capsule
kind_of (Torus n r) = kinds.Torus
kind_of (ClosedCylinder n S centred r l) = kinds.ClosedCylinder
kind_of (SeamlessTorus n r) = kinds.SeamlessTorus

-- "kind (1 ribbon, 2 tube, 3 capsule, 4 torus, 5 closed cylinder)", and "kind 6, a torus with its
-- end twist spread along the loop" (document 02, No. 1)
abbrev pub number_of : Kind → ℕ
number_of kinds.Ribbon = 1
number_of kinds.Tube = 2
number_of kinds.Capsule = 3
number_of kinds.Torus = 4
number_of kinds.ClosedCylinder = 5
number_of kinds.SeamlessTorus = 6

-- how a kind is printed
abbrev pub kind_text : Kind → Option (List ℕ)
kind_text kinds.Ribbon = Some (codes "ribbon")
kind_text kinds.Tube = Some (codes "tube")
kind_text kinds.Capsule = Some (codes "capsule")
kind_text kinds.Torus = Some (codes "torus")
kind_text kinds.ClosedCylinder = Some (codes "closed_cylinder")
kind_text kinds.SeamlessTorus = Some (codes "seamless_torus")

abbrev pub kind_number : Description → ℕ
kind_number d = number_of (kind_of d)

-- the last of them: no "kind outside 1 to 5" ('Refused, and through whom', of 1), and "Refusal 1
-- and the program admit kind 6" (document 02, No. 1)
abbrev pub last_kind : ℕ
last_kind = 6

-- the kind that has a number
unfoldable pub kind_numbered : ℕ → Result Kind UnknownKind
kind_numbered n =
    cond (eqb n 1) (Ok kinds.Ribbon)
    (cond (eqb n 2) (Ok kinds.Tube)
    (cond (eqb n 3) (Ok kinds.Capsule)
    (cond (eqb n 4) (Ok kinds.Torus)
    (cond (eqb n 5) (Ok kinds.ClosedCylinder)
    (cond (eqb n 6) (Ok kinds.SeamlessTorus) (Err (record { 0 = n })))))))

-- "n (0 for a ribbon)"
abbrev pub divisions_of : Description → ℕ
divisions_of (Ribbon w) = 0
divisions_of (Tube n r) = n
divisions_of (Capsule n L r) = n
divisions_of (Torus n r) = n
divisions_of (ClosedCylinder n S centred r l) = n
divisions_of (SeamlessTorus n r) = n

-- What a record describes: "kind, n, L (layers S for kind 5), centre flag .., size bits, length
-- bits .. fields a kind lacks are ignored".
abbrev pub description_of : Kind → Sizes → Description
description_of kinds.Ribbon s = Ribbon s.size
description_of kinds.Tube s = Tube s.divisions s.size
description_of kinds.Capsule s = Capsule s.divisions s.steps s.size
description_of kinds.Torus s = Torus s.divisions s.size
description_of kinds.ClosedCylinder s = ClosedCylinder s.divisions s.steps s.centred s.size s.length
description_of kinds.SeamlessTorus s = SeamlessTorus s.divisions s.size

abbrev pub described_with : Sizes → Result Kind UnknownKind → Option Description
described_with s (Ok kind) = Some (description_of kind s)
described_with s (Err unknown) = None

unfoldable pub described_of : ℕ → ℕ → ℕ → Bool → Float → Float → Option Description
described_of kind n L centred size length =
    let sizes : Sizes = record { divisions = n; steps = L; centred = centred; size = size; length = length } in
    described_with sizes (kind_numbered kind)
