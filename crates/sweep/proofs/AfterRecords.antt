-- Records that were read and added, one after the other: of the known bytes of the input, where
-- there are any, they are the front. Assumes nothing.
use Rattle.std.proofs.Common.{◌≡◌, refl, sym, ap, ◌∙◌, List, [], ◌++◌, ℕ, ◌+◌, ◌*◌, ◌≤◌, ◌<◌}
use Rattle.std.proofs.Common.{length, take, length-take-le, length-append, arith, Option}
use Rattle.std.specs.Io.KnownBytes.{Consumes}
use Rattle.std.proofs.KnownBytes.{Consumes-nil, Consumes-trans}
use Rattle.little_endian.specs.Words.{words_in}
use Rattle.set_table.specs.Buffers.{Buffers}
use Rattle.ledger.specs.Calls.{Called, additions}
use Rattle.records.specs.Records.{record_words, first_addition}
use Rattle.records.proofs.Additions.{additions-append}
use Rattle.streams.proofs.Words.{words-append}
use Rattle.sweep.specs.Input.{Records, none, then, record_count, EachWhole, additions_from}
use Rattle.sweep.specs.Known.{words_of}

-- the front of the words that were read, which is as long as the record there, is that record
pub read_whole : (end : ℕ) (words : List ℕ) → end ≤ length words → end ≡ record_words (take end words)
    → length (take end words) ≡ record_words (take end words)
read_whole end words held is = length-take-le end words held ∙ is

pub read_some : (end : ℕ) (words : List ℕ) → 0 < end → end ≤ length words → 0 < length (take end words)
read_some end words some held = omega (arith, length-take-le end words held)

-- `count` whole records were read, which took the input's known bytes from `old` to `new`, and
-- were added
pub record SoFar (old new : Option (List ℕ)) (count : ℕ) (before after : Buffers) : Type 0 where
  pub records : Records
  pub read : List ℕ
  pub counted : count ≡ record_count records
  pub whole : EachWhole records
  pub taken : Consumes old new read
  pub words : words_in read ≡ words_of records
  pub sized : length read ≡ 4 * length (words_of records)
  pub left : after ≡ (additions (additions_from records) before).left

pub none-read : (known : Option (List ℕ)) (s : Buffers) → SoFar known known 0 s s
none-read known s = record {
  records = none;
  read = [];
  counted = refl;
  whole = tt;
  taken = Consumes-nil known;
  words = refl;
  sized = refl;
  left = refl;
}

-- one record more, of these words, which were read from these bytes
pub one-read : (words bytes : List ℕ) {old mid new : Option (List ℕ)} {count : ℕ} {before s s' : Buffers}
    → SoFar old mid count before s → 0 < length words → length words ≡ record_words words
    → Consumes mid new bytes → length bytes ≡ 4 * length words → words_in bytes ≡ words
    → s' ≡ (additions (first_addition words) s).left → SoFar old new (count + 1) before s'
one-read words bytes {before = before} so_far some is taken sized read added =
    let all = words_of so_far.records in record {
      records = then so_far.records words;
      read = so_far.read ++ bytes;
      counted = ap (λ (n : ℕ). n + 1) so_far.counted;
      whole = (so_far.whole, some, is);
      taken = Consumes-trans _ _ _ so_far.read bytes so_far.taken taken;
      words = words-append (length all) so_far.read bytes so_far.sized ∙ (λ j. so_far.words j ++ read j);
      sized = omega (arith, so_far.sized, sized, length-append so_far.read bytes, length-append all words);
      left = added ∙ ap (λ (s : Buffers). (additions (first_addition words) s).left) so_far.left
          ∙ sym (ap (λ (r : Called). r.left) (additions-append (additions_from so_far.records) (first_addition words) before));
    }
