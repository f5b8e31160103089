use Rattle.std.proofs.Common.{rules, ◌≡◌, ℕ, ◌+◌, ◌-◌, ◌*◌, ◌/◌, ◌≤◌, Bool, List, drop, length-take}
use Rattle.std.proofs.Common.{length-drop, ◌++◌, ◌∙◌, sym, ap, arith, length, take, take_all}
use Rattle.std.proofs.Common.{length-take-le, length-append, subst, leb}
use Rattle.std.specs.Io.KnownBytes.{Consumes}
use Rattle.std.proofs.KnownBytes.{Consumes-whole}
use borrow.Rule.Slice.PartMut.{put_mid}
use Rattle.streams.specs.Record.{StopsBefore}
use Rattle.streams.specs.declared.record.Stop.TheVariants.{Short}
use Rattle.laws.specs.Overwrite.{placed}
use Rattle.records.specs.Records.{record_words}
use Rattle.little_endian.specs.Words.{words_in}
use Rattle.streams.proofs.Kept.{front_filled, prepended, prepended_consumes}
use Rattle.streams.proofs.Records.{read_back, is_whole, is-cut-short}
use Rattle.streams.proofs.record.read_curve.Goals as goal

-- the head, the bytes behind it, which were read to a part of the buffer, and the words of both
module _ (count : ℕ) (old more words₀ : List ℕ) (room : 6172 ≡ length old) (space : 1543 ≡ length words₀)
    (has : 7 ≤ count) (fits : count ≤ 1543) (sized : length more ≡ 4 * count - 28)
  where
    head : List ℕ
    head = take 28 old

    head-sized : length (take 28 old) ≡ 28
    head-sized = length-take-le 28 old (omega (arith, room))

    joined : take (4 * count) (put_mid 28 (4 * count - 28) old more) ≡ take 28 old ++ more
    joined =
        let all : 4 * count ≡ 28 + length more = omega arith in
        ap (λ n. take n (put_mid 28 (4 * count - 28) old more)) all
        ∙ front_filled 28 (4 * count - 28) (length more) old more (omega (arith, room)) (omega arith)
        ∙ ap (λ l. take 28 old ++ l) (take_all (length more) more (omega arith))

    long : length (take 28 old ++ more) ≡ 4 * count
    long = omega (arith, length-append (take 28 old) more, head-sized, sized)

    front : {words : List ℕ} {r : Bool}
        → r ≡ leb (length (take (4 * count) (put_mid 28 (4 * count - 28) old more)) / 4) (length words₀)
        → words ≡ placed r (words_in (take (4 * count) (put_mid 28 (4 * count - 28) old more))) words₀
        → take count words ≡ words_in (take 28 old ++ more)
    front {r = r} is written =
        read_back count (take 28 old ++ more) words₀ long (omega (arith, space))
        (is ∙ ap (λ (l : List ℕ). leb (length l / 4) (length words₀)) joined)
        (written ∙ ap (λ (l : List ℕ). placed r (words_in l) words₀) joined)

pub returns-clause-alone : goal.returns-clause-alone
returns-clause-alone g c =
    let old = c.args.bytes.now in
    let more = c.read_full.new.buf in
    let a = c.requires in
    let room : 6172 ≡ length old = omega arith in
    let space : 1543 ≡ length c.args.words.now = omega arith in
    let sized : length more ≡ 4 * c.args.count - 28 =
    omega (arith, length-take (4 * c.args.count - 28) (drop 28 old), length-drop 28 old) in
    let words = front c.args.count old more c.args.words.now room space a.has_head a.fits sized
    c.read_words.ensures.fits c.read_words.ensures.written in
    let whole =
    is_whole c.args.count (take 28 old) more (length-take-le 28 old (omega arith)) a.named a.has_head sized in
    (omega arith, search rules, whole ∙ sym (ap record_words words))

pub returns-clause-bytes : goal.returns-clause-bytes
returns-clause-bytes g c =
    let old = c.args.bytes.now in
    let more = c.read_full.new.buf in
    let a = c.requires in
    let told = c.in_ok-read.ensures in
    let room : 6172 ≡ length old = omega arith in
    let space : 1543 ≡ length c.args.words.now = omega arith in
    let sized : length more ≡ 4 * c.args.count - 28 =
    omega (arith, length-take (4 * c.args.count - 28) (drop 28 old), length-drop 28 old) in
    let words = front c.args.count old more c.args.words.now room space a.has_head a.fits sized
    c.read_words.ensures.fits c.read_words.ensures.written in
    let taken = subst (Consumes _ _) (take_all c.in_ok-read.read more (omega arith)) told.bytes.0 in (
      take 28 old ++ more,
      prepended_consumes (take 28 old) _ _ more taken,
      long c.args.count old more c.args.words.now room space a.has_head a.fits sized,
      sym words,
    )

pub returns-then-read-end-clause-bytes : goal.returns-then-read-end-clause-bytes
returns-then-read-end-clause-bytes g c =
    let head = take 28 c.args.bytes.now in
    let buf = c.read_full.new.buf in
    let read = c.in_ok-read.read in
    let told = c.in_ok-read.ensures in
    let few = take read buf in
    let sized : length head ≡ 28 = length-take-le 28 c.args.bytes.now (omega arith) in
    let all : length buf ≡ 4 * c.args.count - 28 = omega arith in
    let short = is-cut-short c.args.count head few sized c.requires.named c.requires.has_head (omega (arith, length-take-le read buf (omega arith))) in
    prepended head _ (StopsBefore Short)
    (Consumes-whole _ _ few (λ xs. StopsBefore Short (head ++ xs)) told.bytes.0 (told.bytes.1 (omega arith)) (omega (arith, sized, length-append head few), short))
