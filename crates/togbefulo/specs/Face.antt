-- What the C functions on bodies answer: document 01's numbers ('Refused, and through whom'), 0
-- for what is accepted, and 2^32 − 1 for a kind outside 1 to 6, for which the paper has no number.
-- Definitions only.
use Rattle.std.specs.Prelude.{Bool, false, List, [], ℕ, Float, Option, Some, None, length}
use Rattle.laws.specs.Overwrite.{overwrite}
use Rattle.answers.specs.Answers.{Answer, refused, accepted, number_in}
use Rattle.descriptions.specs.Refusals.{counts_of, count_words, checked_of}
use Rattle.descriptions.specs.declared.counts.Counts.{Counts}
use Rattle.descriptions.specs.declared.description.Description.{Description}
use Rattle.bodies.specs.Bodies.{drawn_of, drawable}

abbrev pub unknown_kind : ℕ
unknown_kind = 0xFFFF_FFFF

abbrev pub check_number : Option Description → List Float → ℕ
check_number (Some d) c = number_in (checked_of d c)
check_number None c = unknown_kind

abbrev pub counts_number : Option Description → ℕ → ℕ
counts_number (Some d) N = number_in (counts_of d N)
counts_number None N = unknown_kind

-- the words of what is accepted, and otherwise what was there
abbrev pub words_after : {A : Type 0} → (A → List ℕ) → Answer A → List ℕ → List ℕ
words_after words (refused number) old = old
words_after words (accepted a) old = overwrite 0 (words a) old

-- the two counts if they are accepted, and otherwise what was there
abbrev pub counts_in : Answer Counts → List ℕ → List ℕ
counts_in answer old = words_after count_words answer old

abbrev pub counts_after : Option Description → ℕ → List ℕ → List ℕ
counts_after (Some d) N old = counts_in (counts_of d N) old
counts_after None N old = old

abbrev pub is_drawn : Option Description → List Float → List Float → Bool
is_drawn (Some d) c out = drawable d c (length out)
is_drawn None c out = false

abbrev pub drawn_vertices : Option Description → List Float → List Float
drawn_vertices (Some d) c = drawn_of d c
drawn_vertices None c = []
