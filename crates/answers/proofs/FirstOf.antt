-- The first refusal of a list of tests: what an answer tells of the tests, and which answer the
-- tests give. Assumes nothing.
use Rattle.std.proofs.Common.{◌≡◌, refl, sym, ap, ◌∙◌, subst, Bool, true, false, cond, List, [], ◌∷◌, ◌++◌, ℕ, T, eqb, arith}
use Rattle.answers.specs.Answers.{Answer, Test, AllPermitted, refused, accepted, is_accepted, first_of}

module _ {A : Type 0} where
  test-passed : (p : Bool) (k : ℕ) {a : A} (rest : Answer A) → accepted a ≡ cond p rest (refused k)
      → (p ≡ true) × (accepted a ≡ rest)
  test-passed true k rest h = (refl, h)
  test-passed false k rest h = let z : ◌≡◌ {A = ℕ} 0 1 = cc in absurd (omega arith)

  -- what an acceptance tells
  pub accepted-by : (ts : List Test) {a : A} (b : A) → accepted a ≡ first_of ts b → (a ≡ b) × AllPermitted ts
  accepted-by [] b h = (cc, tt)
  accepted-by (t ∷ ts) b h =
      let first = test-passed t.permitted t.number (first_of ts b) h in
      let rest = accepted-by ts b first.1 in
      (rest.0, (first.0, rest.1))

  test-accepted : (p : Bool) (k : ℕ) (rest : Answer A) → is_accepted (cond p rest (refused k)) ≡ true
      → (p ≡ true) × (is_accepted rest ≡ true)
  test-accepted true k rest h = (refl, h)
  test-accepted false k rest h = absurd (subst T (sym h) tt)

  -- the same, where only that it is one is known
  pub all-permitted : (ts : List Test) (a : A) → is_accepted (first_of ts a) ≡ true → AllPermitted ts
  all-permitted [] a h = tt
  all-permitted (t ∷ ts) a h =
      let first = test-accepted t.permitted t.number (first_of ts a) h in
      (first.0, all-permitted ts a first.1)

  -- tests that are passed leave the answer to the others
  pub passed-by : (ts us : List Test) (a : A) → AllPermitted ts → first_of us a ≡ first_of (ts ++ us) a
  passed-by [] us a h = refl
  passed-by (t ∷ ts) us a h =
      passed-by ts us a h.1 ∙ sym (ap (λ (p : Bool). cond p (first_of (ts ++ us) a) (refused t.number)) h.0)

  -- the same, where other tests come first
  pub passed-within : (ts us vs : List Test) (a : A) → AllPermitted us
      → first_of (ts ++ vs) a ≡ first_of (ts ++ (us ++ vs)) a
  passed-within [] us vs a h = passed-by us vs a h
  passed-within (t ∷ ts) us vs a h =
      ap (λ (r : Answer A). cond t.permitted r (refused t.number)) (passed-within ts us vs a h)

-- a refusal is the same whatever would be accepted, and whichever tests follow
refused-first : {A B : Type 0} (p : Bool) (j : ℕ) {k : ℕ} (r : Answer A) (s : Answer B) →
    (refused k ≡ r → refused k ≡ s) → refused k ≡ cond p r (refused j) → refused k ≡ cond p s (refused j)
refused-first true j r s next h = next h
refused-first false j r s next h = cc

pub refused-by : {A B : Type 0} (ts us : List Test) {k : ℕ} (a : A) (b : B) → refused k ≡ first_of ts a
    → refused k ≡ first_of (ts ++ us) b
refused-by [] us a b h = let z : ◌≡◌ {A = ℕ} 0 1 = cc in absurd (omega arith)
refused-by (t ∷ ts) us a b h =
    refused-first t.permitted t.number (first_of ts a) (first_of (ts ++ us) b) (refused-by ts us a b) h

-- no test of a list has this number
abbrev pub Others : ℕ → List Test → Type 0
Others number [] = Unit
Others number (t ∷ ts) = (eqb t.number number ≡ false) × Others number ts

other-first : {A : Type 0} (p : Bool) (j number : ℕ) {k : ℕ} (rest : Answer A) → eqb j number ≡ false
    → (refused k ≡ rest → eqb k number ≡ false) → refused k ≡ cond p rest (refused j) → eqb k number ≡ false
other-first true j number rest other next h = next h
other-first false j number {k} rest other next h = let same : k ≡ j = cc in ap (λ (i : ℕ). eqb i number) same ∙ other

-- then no refusal of that list has it
pub other-than : {A : Type 0} (number : ℕ) (ts : List Test) {k : ℕ} (a : A) → Others number ts
    → refused k ≡ first_of ts a → eqb k number ≡ false
other-than number [] a others h = let z : ◌≡◌ {A = ℕ} 0 1 = cc in absurd (omega arith)
other-than number (t ∷ ts) a others h =
    other-first t.permitted t.number number (first_of ts a) others.0 (other-than number ts a others.1) h

-- tests that are passed one after the other
pub both-permitted : (ts us : List Test) → AllPermitted (ts ++ us) → AllPermitted ts × AllPermitted us
both-permitted [] us h = (tt, h)
both-permitted (t ∷ ts) us h = let rest = both-permitted ts us h.1 in ((h.0, rest.0), rest.1)
