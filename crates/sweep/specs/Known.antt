-- What is made of an input whose bytes are known, as those of memory are: the additions of the
-- records that it begins with, in their order, and of nothing else; where no read failed, of all
-- of them. Definitions only.
use Rattle.std.specs.Prelude.{◌≡◌, List, [], ◌++◌, ℕ, ◌*◌, length, IfSome}
use Rattle.std.specs.declared.option.Option.{Option}
use Rattle.little_endian.specs.Words.{words_in}
use Rattle.set_table.specs.Buffers.{Buffers}
use Rattle.ledger.specs.Calls.{additions}
use Rattle.records.specs.Records.{additions_in}
use Rattle.streams.specs.declared.record.Stop.{Stop}
use Rattle.streams.specs.declared.record.Stop.TheVariants.{End, Short, TooLong, Failed}
use Rattle.streams.specs.Record.{StopsBefore}
use Rattle.sweep.specs.Input.{Records, none, then, record_count, EachWhole, additions_from}

-- the words of all records, one after the other
abbrev pub words_of : Records → List ℕ
words_of none = []
words_of (then R words) = words_of R ++ words

-- `count` whole records, which these bytes begin with, were added between `before` and `after`;
-- the reading stopped before the rest of the bytes
pub record AddedFrom (bytes : List ℕ) (stop : Option Stop) (count : ℕ) (before after : Buffers) : Type 0 where
  pub records : Records
  pub read : List ℕ
  pub rest : List ℕ
  pub counted : count ≡ record_count records
  pub whole : EachWhole records
  pub front : bytes ≡ read ++ rest
  pub words : words_in read ≡ words_of records
  pub sized : length read ≡ 4 * length (words_of records)
  pub stopped : IfSome stop (λ why. StopsBefore why rest)
  pub left : after ≡ (additions (additions_from records) before).left

-- the records of the list of words that `build` reads were all added
abbrev pub AddedAll : List ℕ → Buffers → Buffers → Type 0
AddedAll bytes before after = after ≡ (additions (additions_in (words_in bytes)) before).left

-- P, unless a read failed
abbrev pub UnlessFailed : Stop → Type 0 → Type 0
UnlessFailed End P = P
UnlessFailed Short P = P
UnlessFailed TooLong P = P
UnlessFailed (Failed error) P = Unit
