-- What reads and writes do to the known bytes, one after the other. Assumes nothing.
use Rattle.std.proofs.Common.{append_assoc, subst, IfSome, ◌≡◌, ℕ, ◌+◌, ◌-◌, ◌≤◌, List, ◌++◌, ◌∙◌}
use Rattle.std.proofs.Common.{sym, ap, le_refl, refl, length, take, drop, drop_at, length-take-le}
use Rattle.std.proofs.Common.{length-append, arith, take_at, take-append-drop, take-add, Option}
use Rattle.std.proofs.Common.{None, Some}
use Rattle.streams.specs.Filled.{AppendsFront}
use Rattle.std.proofs.lemmas.Slice.{take-put_mid_below}
use Rattle.std.proofs.lemmas.List.{take_rest, take-append-le}
use borrow.Rule.Slice.PartMut.{put_mid, post_of}
use Rattle.std.specs.Io.KnownBytes.{Keeps, Appends, Consumes, prepend_known}

pub kept_consumes : (a b c : Option (List ℕ)) (bs : List ℕ) → Keeps a b → Consumes b c bs → Consumes a c bs
kept_consumes None b c bs p q = tt
kept_consumes (Some x) None c bs p q = absurd p
kept_consumes (Some x) (Some y) None bs p q = absurd q
kept_consumes (Some x) (Some y) (Some z) bs p q = sym p ∙ q

pub kept_appends : (a b c : Option (List ℕ)) (bs : List ℕ) → Keeps a b → Appends b c bs → Appends a c bs
kept_appends None b c bs p q = tt
kept_appends (Some x) None c bs p q = absurd p
kept_appends (Some x) (Some y) None bs p q = absurd q
kept_appends (Some x) (Some y) (Some z) bs p q = q ∙ ap (λ l. l ++ bs) p

-- the front of a buffer after its part from a on was filled to n bytes
pub front_filled : (a k n : ℕ) (xs ys : List ℕ) → a ≤ length xs → n ≤ length ys
    → take (a + n) (put_mid a k xs ys) ≡ take a xs ++ take n ys
front_filled a k n xs ys within fits =
    let after = post_of a k xs in
    let whole = put_mid a k xs ys in
    take-add a n whole
    ∙ ap (λ l. l ++ take n (drop a whole)) (take-put_mid_below _ _ _ _ _ (le_refl _) within)
    ∙ ap (λ l. take a xs ++ take n l) (drop_at (take a xs) (ys ++ after) a (length-take-le a xs within))
    ∙ ap (λ l. take a xs ++ l) (take-append-le n ys after fits)

-- what was written is a front of the buffer
pub is_front : (a b : Option (List ℕ)) (front rest : List ℕ) {buf : List ℕ} → buf ≡ front ++ rest
    → Appends a b front → AppendsFront a b buf
is_front a b front rest is written = (
  length front,
  omega (arith, ap length is, length-append front rest),
  subst (Appends a b) (sym (ap (take (length front)) is ∙ take_at front rest (length front) refl)) written,
)

-- the front of a buffer of which n bytes more were written, and what is left of it
pub rest_more : (front rest : List ℕ) (n : ℕ) {buf : List ℕ} → buf ≡ front ++ rest
    → buf ≡ (front ++ take n rest) ++ take (length rest - n) (drop n rest)
rest_more front rest n is =
    is
    ∙ ap (λ l. front ++ l) (sym (take-append-drop n rest) ∙ ap (λ l. take n rest ++ l) (sym (take_rest rest n)))
    ∙ sym (append_assoc front (take n rest) (take (length rest - n) (drop n rest)))

-- ---- bytes that were read before the known ones

pub prepended : (front : List ℕ) (a : Option (List ℕ)) (P : List ℕ → Type 0) → IfSome a (λ xs. P (front ++ xs))
    → IfSome (prepend_known front a) P
prepended front None P h = tt
prepended front (Some x) P h = h

pub prepended_consumes : (front : List ℕ) (a b : Option (List ℕ)) (bs : List ℕ) → Consumes a b bs
    → Consumes (prepend_known front a) b (front ++ bs)
prepended_consumes front None b bs p = tt
prepended_consumes front (Some x) None bs p = p
prepended_consumes front (Some x) (Some y) bs p = ap (λ l. front ++ l) p ∙ sym (append_assoc front bs y)

-- what holds of the front, whatever follows it, holds of all that was left
pub by_front : (a b : Option (List ℕ)) (front : List ℕ) (P : List ℕ → Type 0) → Consumes a b front
    → ((rest : List ℕ) → P (front ++ rest)) → IfSome a P
by_front None b front P p h = tt
by_front (Some x) None front P p h = absurd p
by_front (Some x) (Some y) front P p h = subst P (sym p) (h y)
