-- What the C functions on the shared set answer and leave: as Face.antt, 2^32 − 1 for a kind
-- outside 1 to 6, and then nothing is touched. Definitions only.
use Rattle.std.specs.Prelude.{List, [], ◌∷◌, ℕ, Float, Option, Some, None}
use Rattle.answers.specs.Answers.{Answer, refused}
use Rattle.descriptions.specs.declared.description.Description.{Description}
use Rattle.set_table.specs.Buffers.{Buffers}
use Rattle.shared_set.specs.Additions.{taken}
use Rattle.shared_set.specs.Set.{After, added}
use Rattle.togbefulo.specs.Face.{unknown_kind, words_after}

abbrev pub added_as : Option Description → List Float → Buffers → After
added_as (Some d) c s = added (taken d c) s
added_as None c s = record { answer = refused unknown_kind; left = s }

-- the word if it is accepted, and otherwise what was there
abbrev pub word_after : Answer ℕ → List ℕ → List ℕ
word_after answer old = words_after (λ (w : ℕ). w ∷ []) answer old
