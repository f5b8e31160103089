-- "Program `sweep` reads records of such words from standard input: kind, n, L (layers S for kind
-- 5), centre flag (0 false, else true), size bits, length bits, curve vertex count, the
-- coordinates" (document 01, 'The shared set'), and the additions that they ask for. Definitions
-- only.
use Rattle.std.specs.Prelude.{Bool, cond, not, ◌&&◌, List, [], ◌∷◌, ◌++◌, map, ℕ, zero, suc, ◌+◌, ◌*◌, eqb}
use Rattle.std.specs.Prelude.{leb, Float, length, get_or, drop, Option, Some, None}
use Rattle.std.specs.Float.{binary32}
use Rattle.std.specs.Float.Ieee.{of_bits}
use Rattle.laws.specs.Parts.{part}
use Rattle.descriptions.specs.KindNumbers.{described_of}
use Rattle.descriptions.specs.declared.description.Description.{Description}
use Rattle.ledger.specs.Calls.{Call}

-- the words before the coordinates
abbrev pub head_words : ℕ
head_words = 7

abbrev pub most_vertices : ℕ
most_vertices = 512

-- "curve vertex count"
abbrev pub vertices_named : List ℕ → ℕ
vertices_named words = get_or words 6 0

-- not "a curve count over 512", nor too short to have one
unfoldable pub head_names : List ℕ → Bool
head_names words = leb head_words (length words) && leb (vertices_named words) most_vertices

-- the length of the record with this head, 0 if it is no head of a record
abbrev pub length_named : List ℕ → ℕ
length_named words = cond (head_names words) (head_words + 3 * vertices_named words) 0

-- not "a short record or a curve count over 512"
unfoldable pub begins_with_record : List ℕ → Bool
begins_with_record words = head_names words && leb (head_words + 3 * vertices_named words) (length words)

-- the length of the record that the words begin with, 0 if they begin with none
abbrev pub record_words : List ℕ → ℕ
record_words words = cond (begins_with_record words) (head_words + 3 * vertices_named words) 0

-- a length as code has it, where 0 is that of no record
abbrev pub unless_zero : ℕ → Option ℕ
unless_zero zero = None
unless_zero (suc n) = Some (suc n)

abbrev pub described_in : List ℕ → Option Description
described_in words =
    described_of (get_or words 0 0) (get_or words 1 0) (get_or words 2 0) (not (eqb (get_or words 3 0) 0))
    (of_bits binary32 (get_or words 4 0)) (of_bits binary32 (get_or words 5 0))

abbrev pub curve_in : List ℕ → List Float
curve_in words = map (of_bits binary32) (part head_words (3 * vertices_named words) words)

-- "skips .. kinds outside 1 to 5"; "Refusal 1 and the program admit kind 6" (document 02, No. 1)
abbrev pub addition_of : Option Description → List Float → List Call
addition_of (Some d) c = record { description = d; curve = c } ∷ []
addition_of None c = []

-- the addition, if there is one, of the record that the words begin with
abbrev pub first_addition : List ℕ → List Call
first_addition words = cond (begins_with_record words) (addition_of (described_in words) (curve_in words)) []

-- "stops at a short record or a curve count over 512": the additions of the first n records
abbrev pub additions_of : ℕ → List ℕ → List Call
additions_of zero words = []
additions_of (suc n) words =
    cond (begins_with_record words) (first_addition words ++ additions_of n (drop (record_words words) words)) []

-- of all: there are no more records than words
unfoldable pub additions_in : List ℕ → List Call
additions_in words = additions_of (length words) words
