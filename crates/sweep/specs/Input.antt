-- What is made of standard input: "reads records of such words from standard input .. skips
-- refused records and kinds outside 1 to 5, stops at a short record or a curve count over 512"
-- (document 01, 'The shared set'); "Refusal 1 and the program admit kind 6" (document 02, No. 1).
-- Which records a file or a pipe holds no contract can say; that the buffers are what the
-- additions of whole records leave, as many as were counted, and that nothing else is done to
-- them, it can. Known.antt says which records they are, where the bytes of the input are known.
-- Definitions only.
use Rattle.std.specs.Prelude.{◌≡◌, List, [], ◌++◌, ℕ, ◌+◌, ◌<◌, length}
use Rattle.set_table.specs.Buffers.{Buffers}
use Rattle.ledger.specs.Calls.{Call, additions}
use Rattle.records.specs.Records.{record_words, first_addition}

-- a list of records, each by its words; it grows at its end
pub data Records : Type 0 where
  none : Records
  then : Records → List ℕ → Records

abbrev pub record_count : Records → ℕ
record_count none = 0
record_count (then R words) = record_count R + 1

-- each is a record, whole and alone, and there is none without words
abbrev pub EachWhole : Records → Type 0
EachWhole none = Unit
EachWhole (then R words) = EachWhole R × (0 < length words) × (length words ≡ record_words words)

abbrev pub additions_from : Records → List Call
additions_from none = []
additions_from (then R words) = additions_from R ++ first_addition words

-- what `after` is to `before`: the additions of `count` whole records were made in between
pub record AfterRecords (count : ℕ) (before after : Buffers) : Type 0 where
  pub records : Records
  pub counted : count ≡ record_count records
  pub whole : EachWhole records
  pub left : after ≡ (additions (additions_from records) before).left
