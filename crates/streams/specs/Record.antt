-- What a read of the next record says of the words that it leaves, and, where the bytes of the
-- input are known, which of them these words are. Definitions only.
use Rattle.std.specs.Prelude.{◌≡◌, List, [], ℕ, ◌*◌, ◌≤◌, ◌<◌, length, take, codes, IfSome, Result, Ok, Err}
use Rattle.std.specs.declared.option.Option.{Option}
use Rattle.std.specs.declared.option.Option.TheVariants.{None, Some}
use Rattle.std.specs.Io.KnownBytes.{Consumes}
use Rattle.little_endian.specs.Words.{words_in}
use Rattle.records.specs.Records.{head_words, most_vertices, vertices_named, record_words}
use Rattle.streams.specs.declared.record.Stop.{Stop}
use Rattle.streams.specs.declared.record.Stop.TheVariants.{End, Short, TooLong, Failed}

-- a record of `count` words is at their front, whole and alone
abbrev pub ReadAs : Result ℕ Stop → List ℕ → Type 0
ReadAs (Ok count) words = (0 < count) × (count ≤ length words) × (count ≡ record_words (take count words))
ReadAs (Err why) words = Unit

-- "a curve count over 512"
abbrev pub NamesTooMany : List ℕ → Type 0
NamesTooMany words = (head_words ≤ length words) × (most_vertices < vertices_named words)

-- "a short record"
abbrev pub IsCutShort : List ℕ → Type 0
IsCutShort words = (record_words words ≡ 0) × (head_words ≤ length words → vertices_named words ≤ most_vertices)

-- why the reading stops before these bytes, which are all that is left of an input
abbrev pub StopsBefore : Stop → List ℕ → Type 0
StopsBefore End bytes = bytes ≡ []
StopsBefore Short bytes = (0 < length bytes) × IsCutShort (words_in bytes)
StopsBefore TooLong bytes = NamesTooMany (words_in bytes)
StopsBefore (Failed error) bytes = Unit

-- the known bytes lost those of the record, whose words are at the front of `words`; or they begin
-- with no record
abbrev pub ReadFrom : Option (List ℕ) → Option (List ℕ) → Result ℕ Stop → List ℕ → Type 0
ReadFrom old new (Ok count) words =
    (bytes : List ℕ) × Consumes old new bytes × (length bytes ≡ 4 * count) × (words_in bytes ≡ take count words)
ReadFrom old new (Err why) words = IfSome old (StopsBefore why)

-- what is wrong with the record before which the reading stops; of a read that failed only the
-- system can say it
abbrev pub stop_text : Stop → Option (List ℕ)
stop_text End = Some (codes "lies past the end of the input")
stop_text Short = Some (codes "is cut short by the end of the input")
stop_text TooLong = Some (codes "names more than 512 curve vertices")
stop_text (Failed error) = None
