-- The answers of every call: "Refusals return their number" (document 01, 'Refused, and through
-- whom'). Definitions only.
use Rattle.std.specs.Prelude.{◌≡◌, Bool, true, false, cond, List, [], ◌∷◌, ℕ, Result, Ok, Err}
use Rattle.answers.specs.declared.refusal.Refusal.{Refusal}
use Rattle.answers.specs.declared.refusal.Refusal.TheVariants.{DamagedTable, NoEntry, NoVertices, NoTriangles}
use Rattle.answers.specs.declared.refusal.Refusal.TheVariants.{PastEnd}
use Rattle.answers.specs.declared.refusal.Refusal.TheVariants.{CurveVertices, CurveNotFinite, Segment, Fold}
use Rattle.answers.specs.declared.refusal.Refusal.TheVariants.{Divisions, Layers, Size, NotFinite}

-- a refusal's number, or what is accepted
pub data Answer (A : Type 0) : Type 0 where
  refused : ℕ → Answer A
  accepted : A → Answer A

abbrev pub is_accepted : {A : Type 0} → Answer A → Bool
is_accepted (refused number) = false
is_accepted (accepted a) = true

-- "Refusals return their number": it, and 0 where nothing is refused
abbrev pub number_in : {A : Type 0} → Answer A → ℕ
number_in (refused number) = number
number_in (accepted a) = 0

-- A refusal by its number, and whether what it looks at is permitted.
pub record Test : Type 0 where
  pub number : ℕ
  pub permitted : Bool

abbrev pub test : ℕ → Bool → Test
test number permitted = record { number = number; permitted = permitted }

-- "the first refusal, in add's order, whose condition holds" ('Frames and vertices')
abbrev pub first_of : {A : Type 0} → List Test → A → Answer A
first_of [] a = accepted a
first_of (t ∷ ts) a = cond t.permitted (first_of ts a) (refused t.number)

-- every test of a list is passed
abbrev pub AllPermitted : List Test → Type 0
AllPermitted [] = Unit
AllPermitted (t ∷ ts) = (t.permitted ≡ true) × AllPermitted ts

-- 23, the one refusal that touches a buffer
abbrev pub not_finite : ℕ
not_finite = 23

-- document 01's number of each reason
abbrev pub number_of : Refusal → ℕ
number_of DamagedTable = 1
number_of NoEntry = 2
number_of NoVertices = 3
number_of NoTriangles = 4
number_of PastEnd = 5
number_of CurveVertices = 10
number_of CurveNotFinite = 11
number_of Segment = 12
number_of Fold = 13
number_of Divisions = 20
number_of Layers = 21
number_of Size = 22
number_of NotFinite = not_finite

-- what a call answers, by document 01's numbers
abbrev pub answer_of : {A : Type 0} → Result A Refusal → Answer A
answer_of (Ok a) = accepted a
answer_of (Err why) = refused (number_of why)
