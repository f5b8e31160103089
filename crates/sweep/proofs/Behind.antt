-- Records that other words follow: the additions of all are theirs, and then those of what
-- follows. Assumes nothing.
use Rattle.std.proofs.Common.{◌≡◌, refl, sym, ap, ◌∙◌, List, [], ◌++◌, append_assoc}
use Rattle.std.proofs.Common.{append-nil, map, ℕ, ◌+◌, ◌*◌, ◌<◌, not, eqb, length, get_or}
use Rattle.std.proofs.Common.{take, drop, length-append, length-drop, drop_at, arith, Bool, true}
use Rattle.std.proofs.Common.{false, IfSome, Option, None, Some}
use Rattle.std.proofs.Math.ListN.{get_or-append}
use Rattle.std.specs.Float.{binary32}
use Rattle.std.specs.Float.Ieee.{of_bits}
use Rattle.std.proofs.lemmas.List.{take-append-le, drop-append-le}
use Rattle.laws.specs.Parts.{part}
use Rattle.little_endian.specs.Words.{words_in}
use Rattle.set_table.specs.Buffers.{Buffers}
use Rattle.descriptions.specs.KindNumbers.{described_of}
use Rattle.ledger.specs.Calls.{Call, additions}
use Rattle.records.specs.Records.{head_words, vertices_named, head_names, begins_with_record}
use Rattle.records.specs.Records.{record_words, described_in, curve_in, addition_of, first_addition}
use Rattle.records.specs.Records.{additions_in}
use Rattle.records.proofs.Additions.{Whole, whole, whole-begins, record-length, first-addition, is-record}
use Rattle.records.proofs.Additions.{no_record, additions-next, additions-none}
use Rattle.streams.specs.declared.record.Stop.{Stop}
use Rattle.streams.specs.declared.record.Stop.TheVariants.{End, Short, TooLong, Failed}
use Rattle.streams.specs.Record.{StopsBefore, NamesTooMany}
use Rattle.streams.proofs.Words.{words-append}
use Rattle.sweep.specs.Input.{Records, none, then, EachWhole, additions_from}
use Rattle.sweep.specs.Known.{words_of, AddedFrom, AddedAll, UnlessFailed}

-- a record, whole and alone, and words behind it
module _ (words more : List ℕ) (some : 0 < length words) (is : length words ≡ record_words words) where
  begins : begins_with_record words ≡ true
  begins = is-record words (λ none. omega (arith, some, is, none))

  there : Whole words
  there = whole words begins

  long : length words ≡ head_words + 3 * vertices_named words
  long = is ∙ record-length words begins

  -- the words of its head
  same-word : (k : ℕ) → k < 7 → get_or (words ++ more) k 0 ≡ get_or words k 0
  same-word k h = get_or-append words more 0 k (omega (arith, long, h))

  begins-all : begins_with_record (words ++ more) ≡ true
  begins-all =
      let same = same-word 6 (omega arith) in
      let sized = length-append words more in
      whole-begins (words ++ more) (record {
        head = omega (arith, there.head, sized);
        few = omega (arith, there.few, same);
        coordinates = omega (arith, there.coordinates, same, sized);
      })

  same-length : record_words (words ++ more) ≡ length words
  same-length =
      record-length (words ++ more) begins-all ∙ ap (λ (v : ℕ). head_words + 3 * v) (same-word 6 (omega arith))
      ∙ sym long

  same_description : described_in (words ++ more) ≡ described_in words
  same_description =
      let w0 = same-word 0 (omega arith) in
      let w1 = same-word 1 (omega arith) in
      let w2 = same-word 2 (omega arith) in
      let w3 = same-word 3 (omega arith) in
      let w4 = same-word 4 (omega arith) in
      let w5 = same-word 5 (omega arith) in
      λ j. described_of (w0 j) (w1 j) (w2 j) (not (eqb (w3 j) 0)) (of_bits binary32 (w4 j)) (of_bits binary32 (w5 j))

  same_curve : curve_in (words ++ more) ≡ curve_in words
  same_curve =
      let v = vertices_named words in
      let rest : part head_words (3 * v) (words ++ more) ≡ part head_words (3 * v) words =
      ap (take (3 * v)) (drop-append-le head_words words more there.head)
      ∙ take-append-le (3 * v) (drop head_words words) more (omega (arith, long, length-drop head_words words)) in
      ap (map (of_bits binary32)) (ap (λ (n : ℕ). part head_words (3 * n) (words ++ more)) (same-word 6 (omega arith)) ∙ rest)

  same_addition : first_addition (words ++ more) ≡ first_addition words
  same_addition =
      first-addition (words ++ more) begins-all
      ∙ (λ j. addition_of (same_description j) (same_curve j))
      ∙ sym (first-addition words begins)

  pub then-others : additions_in (words ++ more) ≡ first_addition words ++ additions_in more
  then-others =
      let behind : drop (record_words (words ++ more)) (words ++ more) ≡ more =
      ap (λ (n : ℕ). drop n (words ++ more)) same-length ∙ drop_at words more (length words) refl in
      additions-next (words ++ more) begins-all ∙ (λ j. same_addition j ++ additions_in (behind j))

pub records-then-others : (R : Records) (more : List ℕ) → EachWhole R
    → additions_in (words_of R ++ more) ≡ additions_from R ++ additions_in more
records-then-others none more w = refl
records-then-others (then R words) more w =
    ap additions_in (append_assoc (words_of R) words more)
    ∙ records-then-others R (words ++ more) w.0
    ∙ ap (λ (l : List Call). additions_from R ++ l) (then-others words more w.1 w.2)
    ∙ sym (append_assoc (additions_from R) (first_addition words) (additions_in more))

-- a curve of too many vertices is no record's
too_many-none : (words : List ℕ) → NamesTooMany words → begins_with_record words ≡ false
too_many-none words told = by (begins_with_record words) refl where
  by : (b : Bool) → begins_with_record words ≡ b → begins_with_record words ≡ false
  by true e = absurd (omega (arith, (whole words e).few, told.1))
  by false e = e

nothing-none : begins_with_record [] ≡ false
unfolding begins_with_record head_names
nothing-none = refl

-- where the reading stops no record follows
nothing_behind : (why : Stop) (rest : List ℕ) → StopsBefore why rest
    → UnlessFailed why (additions_in (words_in rest) ≡ [])
nothing_behind End rest told =
    additions-none (words_in rest) (ap (λ (l : List ℕ). begins_with_record (words_in l)) told ∙ nothing-none)
nothing_behind Short rest told = additions-none (words_in rest) (no_record (words_in rest) told.1.0)
nothing_behind TooLong rest told = additions-none (words_in rest) (too_many-none (words_in rest) told)
nothing_behind (Failed error) rest told = tt

-- all that the bytes hold
all_of : (bytes : List ℕ) (why : Stop) (count : ℕ) (before after : Buffers)
    → (a : AddedFrom bytes (Some why) count before after)
    → additions_in (words_in a.rest) ≡ [] → AddedAll bytes before after
all_of bytes why count before after a nothing =
    let split : words_in bytes ≡ words_of a.records ++ words_in a.rest =
    ap words_in a.front ∙ words-append (length (words_of a.records)) a.read a.rest a.sized ∙ ap (λ (l : List ℕ). l ++ words_in a.rest) a.words in
    let calls : additions_in (words_in bytes) ≡ additions_from a.records =
    ap additions_in split
    ∙ records-then-others a.records (words_in a.rest) a.whole
    ∙ ap (λ (l : List Call). additions_from a.records ++ l) nothing
    ∙ append-nil (additions_from a.records) in
    a.left ∙ sym (ap (λ (l : List Call). (additions l before).left) calls)

pub added-all : (bytes : List ℕ) (why : Stop) (count : ℕ) (before after : Buffers)
    → AddedFrom bytes (Some why) count before after
    → UnlessFailed why (AddedAll bytes before after)
added-all bytes End count before after a = all_of bytes End count before after a (nothing_behind End a.rest a.stopped)
added-all bytes Short count before after a =
    all_of bytes Short count before after a (nothing_behind Short a.rest a.stopped)
added-all bytes TooLong count before after a =
    all_of bytes TooLong count before after a (nothing_behind TooLong a.rest a.stopped)
added-all bytes (Failed error) count before after a = tt

pub all-read : (known : Option (List ℕ)) (stop : Option Stop) (count : ℕ) (before after : Buffers)
    → IfSome known (λ bytes. AddedFrom bytes stop count before after)
    → IfSome known (λ bytes. IfSome stop (λ why. UnlessFailed why (AddedAll bytes before after)))
all-read None stop count before after a = tt
all-read (Some bytes) None count before after a = tt
all-read (Some bytes) (Some why) count before after a = added-all bytes why count before after a
