use Rattle.std.proofs.Common.{◌≡◌, ℕ, ◌/◌, Bool, List, subst, take_all, ◌++◌, ◌∙◌}
use Rattle.std.proofs.Common.{sym, ap, arith, length, take, drop, length-take-le}
use Rattle.std.proofs.Common.{leb}
use Rattle.std.proofs.KnownBytes.{Consumes-whole}
use Rattle.std.proofs.lemmas.Result.{err_from_is_err_and}
use Rattle.std.specs.Io.KnownBytes.{Consumes}
use Rattle.std.proofs.lemmas.List.{take-append-le}
use Rattle.laws.specs.Overwrite.{placed}
use Rattle.records.specs.Records.{length_named}
use Rattle.records.proofs.Lengths.{named-bounds, unless_zero-some, unless_zero-none}
use Rattle.little_endian.specs.Words.{words_in}
use Rattle.streams.specs.Record.{StopsBefore}
use Rattle.streams.specs.declared.record.Stop.TheVariants.{Short, TooLong}
use Rattle.streams.proofs.Kept.{by_front}
use Rattle.streams.proofs.Records.{read_back, no_head, still_too_many, behind_head}
use Rattle.streams.proofs.record.read_record.Goals as goal

-- a head that was read to the front of a buffer, and its words
module _ (head old words₀ : List ℕ) (sized : length head ≡ 28) (space : 1543 ≡ length words₀) where
  in_front : take 28 (head ++ drop 28 old) ≡ head
  in_front = take-append-le 28 head (drop 28 old) (omega (arith, sized)) ∙ take_all 28 head (omega (arith, sized))

  read : {words : List ℕ} {r : Bool}
      → r ≡ leb (length (take 28 (head ++ drop 28 old)) / 4) (length words₀)
      → words ≡ placed r (words_in (take 28 (head ++ drop 28 old))) words₀
      → take 7 words ≡ words_in head
  read {r = r} is written =
      read_back 7 head words₀ sized (omega (arith, space))
      (is ∙ ap (λ (l : List ℕ). leb (length l / 4) (length words₀)) in_front)
      (written ∙ ap (λ (l : List ℕ). placed r (words_in l) words₀) in_front)

pub returns-then-read-head-clause-bytes : goal.returns-then-read-head-clause-bytes
returns-then-read-head-clause-bytes g c =
    let read = c.in_ok-read.read in
    let buf = c.read_full.new.buf in
    let few = take read buf in
    let told = c.in_ok-read.ensures in
    let full : length buf ≡ 28 = omega (arith, length-take-le 28 c.args.bytes.now (omega arith)) in
    let sized : length few ≡ read = length-take-le read buf (omega arith) in
    Consumes-whole _ _ few (StopsBefore Short) told.bytes.0 (told.bytes.1 (omega arith))
    (omega (arith, sized), no_head few (omega arith))

pub returns-in_err-count-clause-bytes : goal.returns-in_err-count-clause-bytes
returns-in_err-count-clause-bytes g c =
    let head = c.read_full.new.buf in
    let sized : length head ≡ 28 = omega (arith, length-take-le 28 c.args.bytes.now (omega arith)) in
    let space : 1543 ≡ length c.args.words.now = omega arith in
    let words = read head c.args.bytes.now c.args.words.now sized space c.read_words.ensures.fits c.read_words.ensures.written in
    let none : length_named (words_in head) ≡ 0 =
    sym (ap length_named words) ∙ unless_zero-none (sym c.in_err-count.ensures.ok_part ∙ c.record_length.ensures) in
    let taken = subst (Consumes _ _) (take_all c.in_ok-read.read head (omega arith)) c.in_ok-read.ensures.bytes.0 in
    let p = err_from_is_err_and c.from_residual-in_err-count.result c.from_residual-in_err-count.ensures.1 in
    let why : p.0 ≡ TooLong = grind arith in
    rw (p.1, why) (by_front _ _ head (StopsBefore TooLong) taken (λ more. still_too_many head more sized none))

pub read_curve-requires-clause-fits : goal.read_curve-requires-clause-fits
read_curve-requires-clause-fits g c =
    let told = unless_zero-some (sym c.in_ok-count.ensures.ok_part ∙ c.record_length.ensures) in
    (named-bounds _ told.0 (λ none. omega arith)).1

pub read_curve-requires-clause-named : goal.read_curve-requires-clause-named
read_curve-requires-clause-named g c =
    let head = c.read_full.new.buf in
    let old = c.args.bytes.now in
    let sized : length head ≡ 28 = omega (arith, length-take-le 28 old (omega arith)) in
    let space : 1543 ≡ length c.args.words.now = omega arith in
    let words = read head old c.args.words.now sized space c.read_words.ensures.fits c.read_words.ensures.written in
    (unless_zero-some (sym c.in_ok-count.ensures.ok_part ∙ c.record_length.ensures)).0 ∙ ap length_named (words ∙ ap words_in (sym (in_front head old c.args.words.now sized space)))

pub returns-clause-bytes : goal.returns-clause-bytes
returns-clause-bytes g c =
    let head = c.read_full.new.buf in
    let old = c.args.bytes.now in
    let sized : length head ≡ 28 = omega (arith, length-take-le 28 old (omega arith)) in
    let space : 1543 ≡ length c.args.words.now = omega arith in
    let front = in_front head old c.args.words.now sized space in
    let taken = subst (Consumes _ _) (take_all c.in_ok-read.read head (omega arith)) c.in_ok-read.ensures.bytes.0 in
    behind_head _ _ _ _ _ _ (subst (Consumes _ _) (sym front) taken) c.read_curve.ensures.bytes
