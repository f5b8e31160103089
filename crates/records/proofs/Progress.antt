-- How far a loop over records has come: what is done and what remains give the whole. Assumes
-- nothing.
use Rattle.std.proofs.Common.{◌≡◌, refl, sym, ap, ◌∙◌, true, false, List, [], ◌++◌, append-nil, append_assoc, ℕ, ◌+◌, ◌≤◌, zero-add, arith, length, drop, length-append, length-drop, Option, Some, None, Result}
use Rattle.std.proofs.lemmas.List.{map-append}
use Rattle.std.proofs.Math.ListN.{length-map}
use Rattle.answers.specs.declared.refusal.Refusal.{Refusal}
use Rattle.laws.specs.Overwrite.{overwrite}
use Rattle.laws.proofs.Overwrite.{overwrite-none, written_behind}
use Rattle.answers.specs.Answers.{Answer, number_in}
use Rattle.set_table.specs.Buffers.{Buffers, lengths_of}
use Rattle.ledger.specs.Calls.{Call, Called, additions}
use Rattle.records.specs.Records.{begins_with_record, record_words, first_addition, additions_in}
use Rattle.records.specs.Built.{replies_in, numbers_of}
use Rattle.records.proofs.Additions.{whole, record-length, additions-next, additions-none, preceded_by}
use Rattle.records.proofs.Additions.{additions-append}

-- The records before `rest` have been read and i answers written. The buffers held s₀ and
-- answers₀, and hold s and answers.
pub record Progress (records answers₀ : List ℕ) (s₀ : Buffers) (answers : List ℕ) (s : Buffers) (rest : List ℕ) (i : ℕ) : Type 0 where
  -- what the calls so far answered
  pub done : List (Answer (Unit {0}))
  -- with the calls that remain they give the whole
  pub gives : additions (additions_in records) s₀ ≡ preceded_by done (additions (additions_in rest) s)
  pub written : answers ≡ overwrite 0 (numbers_of done) answers₀
  pub counted : i ≡ length done
  pub fewer : i + length rest ≤ length records
  pub sized : lengths_of s ≡ lengths_of s₀

-- what became of a record
abbrev Reply : Type 0
Reply = Option (Result (Unit {0}) Refusal)

-- it gets one answer at most
one-reply : (reply : Reply) → length (replies_in reply) ≤ 1
one-reply None = omega arith
one-reply (Some result) = omega arith

-- the calls of the first record, and those of the others after them
first-apart : (words : List ℕ) (s : Buffers) → begins_with_record words ≡ true
    → let first = additions (first_addition words) s in
    additions (additions_in words) s ≡ preceded_by first.answers (additions (additions_in (drop (record_words words) words)) first.left)
first-apart words s begins =
    ap (λ (list : List Call). additions list s) (additions-next words begins)
    ∙ additions-append (first_addition words) (additions_in (drop (record_words words) words)) s

module _ (records answers₀ : List ℕ) (s₀ : Buffers) where
  -- nothing is done
  pub begun : Progress records answers₀ s₀ answers₀ s₀ records 0
  begun = record {
    done = [];
    gives = refl;
    written = sym (overwrite-none 0 answers₀);
    counted = refl;
    fewer = omega arith;
    sized = refl;
  }

  -- one record more
  pub next : {answers answers' : List ℕ} {s s' : Buffers} {rest : List ℕ} {i i' words : ℕ} (reply : Reply)
      → Progress records answers₀ s₀ answers s rest i
      → begins_with_record rest ≡ true
      → words ≡ record_words rest
      → record { answers = replies_in reply; left = s' } ≡ additions (first_addition rest) s
      → lengths_of s' ≡ lengths_of s
      → i' ≡ i + length (replies_in reply)
      → answers' ≡ overwrite i (numbers_of (replies_in reply)) answers
      → Progress records answers₀ s₀ answers' s' (drop words rest) i'
  next {answers} {answers'} {s} {s'} {rest} {i} {i'} {words} reply p begins size calls same more put =
      let done = p.done in
      let replies = replies_in reply in
      let others = additions (additions_in (drop words rest)) s' in
      let sized : length (numbers_of done) ≡ i = length-map done number_in ∙ sym p.counted in
      let from-i = put ∙ ap (λ (k : ℕ). overwrite k (numbers_of replies) answers) (sym (zero-add i)) in
      record {
        done = done ++ replies;
        gives = p.gives
            ∙ ap (preceded_by done) (first-apart rest s begins ∙ (λ j. preceded_by (sym calls j).answers (additions (additions_in (drop (sym size j) rest)) (sym calls j).left)))
            ∙ (λ j. record { answers = sym (append_assoc done replies others.answers) j; left = others.left });
        written = written_behind 0 (numbers_of done) (numbers_of replies) answers₀ p.written sized from-i
            ∙ ap (λ (l : List ℕ). overwrite 0 l answers₀) (sym (map-append number_in done replies));
        counted = more ∙ ap (λ (k : ℕ). k + length replies) p.counted ∙ sym (length-append done replies);
        fewer = omega (arith, one-reply reply, p.fewer, record-length rest begins, (whole rest begins).coordinates, length-drop words rest);
        sized = same ∙ p.sized;
      }

  -- no record more
  module _ {answers : List ℕ} {s : Buffers} {rest : List ℕ} {i : ℕ} (p : Progress records answers₀ s₀ answers s rest i)
      (none : begins_with_record rest ≡ false) where
    all : additions (additions_in records) s₀ ≡ record { answers = p.done; left = s }
    all =
        p.gives
        ∙ ap (λ (list : List Call). preceded_by p.done (additions list s)) (additions-none rest none)
        ∙ (λ j. record { answers = append-nil p.done j; left = s })

    pub all_left : s ≡ (additions (additions_in records) s₀).left
    all_left = ap (λ (r : Called). r.left) (sym all)

    pub all-answered : answers ≡ overwrite 0 (numbers_of (additions (additions_in records) s₀).answers) answers₀
    all-answered = p.written ∙ ap (λ (r : Called). overwrite 0 (numbers_of r.answers) answers₀) (sym all)
