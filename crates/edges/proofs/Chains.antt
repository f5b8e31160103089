-- The points of a chain: which follows which, and where a chain ends. Assumes nothing.
use Rattle.std.proofs.Common.{◌≡◌, refl, ap, ◌∙◌, ◌⊎◌, inl, inr, ◌≢◌, Bool, true, false, not, ℕ}
use Rattle.std.proofs.Common.{zero, suc, ◌+◌, ◌-◌, ◌%◌, ◌≤◌, ◌<◌, eq-or-lt_of_le, mod-lt}
use Rattle.std.proofs.Common.{mod-eq_of_lt, arith}
use Rattle.std.proofs.Math.Nat.{mod_self}
use Rattle.std.proofs.Math.Decide.{dec_lt}
use Rattle.surface.specs.Grid.{after_of, points_of}
use Rattle.surface.specs.declared.grid.Chain.{Chain}
use Rattle.surface.specs.declared.grid.Chain.TheVariants.{Open, Closed}
use Rattle.surface.proofs.Chains.{after-lt}
use Rattle.edges.specs.Edges.{is_zero, least_steps, ends}
use Rattle.edges.proofs.Zero.{is_zero-le, is_zero-no, is_zero-yes, is_zero-pos, is_zero-zero}
use Rattle.laws.specs.Sums.{sum_below}
use Rattle.edges.proofs.Sum.{sum-zero, sum-at}

-- ---- the point after another

abbrev pub Next : ℕ → ℕ → Type 0
Next n i = (((i + 1) % n ≡ i + 1) × (i + 1 < n)) ⊎ (((i + 1) % n ≡ 0) × (i + 1 ≡ n))

-- `%` by a variable is nothing that omega reads: the two cases are
next-cases : (n i : ℕ) → i < n → Next n i
next-cases n i h = pick (eq-or-lt_of_le h)
  where
    pick : (suc i ≡ n) ⊎ (suc i < n) → Next n i
    pick (inl e) = let e' : i + 1 ≡ n = omega arith in inr (rw e' (mod_self n), e')
    pick (inr l) = inl (mod-eq_of_lt (omega arith), omega arith)

next-lt : (n i : ℕ) → 0 < n → (i + 1) % n < n
next-lt n i h = mod-lt (i + 1) h

-- What is asked of a successor, on the numbers below n, so that an edge's steps tell where it
-- stands.
pub record Turn (next : ℕ → ℕ) (n : ℕ) : Type 0 where
  pub moves : (i : ℕ) → next i ≢ i
  pub twice : (i : ℕ) → next (next i) ≢ i
  pub one_way : (i j : ℕ) → i < n → j < n → next i ≡ next j → i ≡ j

pub chain-turn : (chain : Chain) (n : ℕ) → least_steps chain ≤ n → Turn (after_of chain n) n
chain-turn Open n h =
    record { moves = λ i. omega arith; twice = λ i. omega arith; one_way = λ i j hi hj p. omega arith }
chain-turn Closed n h = record {
  moves = λ i. moves i (dec_lt i n);
  twice = λ i. twice i (dec_lt i n);
  one_way = λ i j hi hj p. one_way i j hi hj p (next-cases n i hi) (next-cases n j hj);
}
  where
    moves : (i : ℕ) → Dec (i < n) → (i + 1) % n ≢ i
    moves i (no f) = omega (arith, next-lt n i (omega arith))
    moves i (yes l) = go (next-cases n i l)
      where
        go : Next n i → (i + 1) % n ≢ i
        go (inl t) = omega arith
        go (inr t) = omega arith

    twice : (i : ℕ) → Dec (i < n) → ((i + 1) % n + 1) % n ≢ i
    twice i (no f) = omega (arith, next-lt n ((i + 1) % n) (omega arith))
    twice i (yes l) = go (next-cases n i l) (next-cases n ((i + 1) % n) (next-lt n i (omega arith)))
      where
        go : Next n i → Next n ((i + 1) % n) → ((i + 1) % n + 1) % n ≢ i
        go (inl t) (inl u) = omega arith
        go (inl t) (inr u) = omega arith
        go (inr t) (inl u) = omega arith
        go (inr t) (inr u) = omega arith

    one_way : (i j : ℕ) → i < n → j < n → (i + 1) % n ≡ (j + 1) % n → Next n i → Next n j → i ≡ j
    one_way i j hi hj p (inl t) (inl u) = omega arith
    one_way i j hi hj p (inl t) (inr u) = omega arith
    one_way i j hi hj p (inr t) (inl u) = omega arith
    one_way i j hi hj p (inr t) (inr u) = omega arith

-- ---- the near and the far side of a step

-- the near end of step i, or the far one
abbrev pub corner : Chain → ℕ → Bool → ℕ → ℕ
corner chain n false i = i
corner chain n true i = after_of chain n i

pub corner-lt : (chain : Chain) (n : ℕ) (x : Bool) (i : ℕ) → i < n → corner chain n x i < points_of chain n
corner-lt Open n false i h = omega arith
corner-lt Closed n false i h = h
corner-lt chain n true i h = after-lt chain n i h

pub corner-inj : (chain : Chain) (n : ℕ) → least_steps chain ≤ n → (x : Bool) (i j : ℕ) → i < n → j < n
    → corner chain n x i ≡ corner chain n x j → i ≡ j
corner-inj chain n h false i j hi hj p = p
corner-inj chain n h true i j hi hj p = (chain-turn chain n h).one_way i j hi hj p

-- ---- the step on the other side of an edge that goes from side x of step i to side y

-- it is the step itself where the edge crosses the step, the one before where it lies on the near
-- side, the one behind where on the far side
abbrev pub Across : Chain → ℕ → Bool → Bool → ℕ → ℕ → Type 0
Across chain n false false i j = after_of chain n j ≡ i
Across chain n false true i j = j ≡ i
Across chain n true false i j = j ≡ i
Across chain n true true i j = j ≡ after_of chain n i

-- seen from there, the sides are exchanged
pub across-tail : (chain : Chain) (n : ℕ) (x y : Bool) (i j : ℕ) → Across chain n x y i j
    → corner chain n (not x) j ≡ corner chain n y i
across-tail chain n false false i j h = h
across-tail chain n false true i j h = ap (λ (k : ℕ). after_of chain n k) h
across-tail chain n true false i j h = h
across-tail chain n true true i j h = h

pub across-head : (chain : Chain) (n : ℕ) (x y : Bool) (i j : ℕ) → Across chain n x y i j
    → corner chain n (not y) j ≡ corner chain n x i
across-head chain n false false i j h = h
across-head chain n false true i j h = h
across-head chain n true false i j h = ap (λ (k : ℕ). after_of chain n k) h
across-head chain n true true i j h = h

-- 1 at the first step of an open chain, and at its last
abbrev pub at_start : Chain → ℕ → ℕ
at_start Open i = is_zero i
at_start Closed i = 0

abbrev pub at_end : Chain → ℕ → ℕ → ℕ
at_end Open n i = is_zero (n - (i + 1))
at_end Closed n i = 0

-- 1 where there is no step on the other side
abbrev pub outside : Chain → ℕ → Bool → Bool → ℕ → ℕ
outside chain n false false i = at_start chain i
outside chain n false true i = 0
outside chain n true false i = 0
outside chain n true true i = at_end chain n i

pub outside-le : (chain : Chain) (n : ℕ) (x y : Bool) (i : ℕ) → outside chain n x y i ≤ 1
outside-le Open n false false i = is_zero-le i
outside-le Closed n false false i = omega arith
outside-le chain n false true i = omega arith
outside-le chain n true false i = omega arith
outside-le Open n true true i = is_zero-le (n - (i + 1))
outside-le Closed n true true i = omega arith

abbrev Neighbour : Chain → ℕ → Bool → Bool → ℕ → Type 0
Neighbour chain n x y i = (j : ℕ) × (j < n) × Across chain n x y i j

pub before : (n i : ℕ) → i < n → (j : ℕ) × (j < n) × ((j + 1) % n ≡ i)
before n zero h = (n - 1, omega arith, (let e : n - 1 + 1 ≡ n = omega arith in rw e (mod_self n)))
before n (suc i) h = (i, omega arith, mod-eq_of_lt (omega arith) ∙ omega arith)

pub neighbour : (chain : Chain) (n : ℕ) (x y : Bool) (i : ℕ) → i < n → outside chain n x y i ≡ 0
    → Neighbour chain n x y i
neighbour Open n false false i h o = let p = is_zero-no i o in (i - 1, omega arith, omega arith)
neighbour Closed n false false i h o = before n i h
neighbour chain n false true i h o = (i, h, refl)
neighbour chain n true false i h o = (i, h, refl)
neighbour Open n true true i h o = let p = is_zero-no (n - (i + 1)) o in (i + 1, omega arith, refl)
neighbour Closed n true true i h o = ((i + 1) % n, next-lt n i (omega arith), refl)

pub no-neighbour : (chain : Chain) (n : ℕ) (x y : Bool) (i j : ℕ) → j < n → 1 ≤ outside chain n x y i
    → corner chain n (not x) j ≡ corner chain n y i → ⊥
no-neighbour Open n false false i j h o p = let z = is_zero-yes i o in omega arith
no-neighbour Closed n false false i j h o p = omega arith
no-neighbour chain n false true i j h o p = omega arith
no-neighbour chain n true false i j h o p = omega arith
no-neighbour Open n true true i j h o p = let z = is_zero-yes (n - (i + 1)) o in omega arith
no-neighbour Closed n true true i j h o p = omega arith

-- ---- how many ends there are

pub sum-ends : (chain : Chain) (n : ℕ) → least_steps chain ≤ n
    → sum_below n (λ i. at_start chain i) + sum_below n (λ i. at_end chain n i) ≡ ends chain
sum-ends Open n h =
    omega (
      arith,
      sum-at n (λ i. is_zero i) 0 (omega arith) (λ i l ne. is_zero-pos i (omega arith)),
      sum-at n (λ i. is_zero (n - (i + 1))) (n - 1) (omega arith) (λ i l ne. is_zero-pos (n - (i + 1)) (omega arith)),
      is_zero-zero (n - (n - 1 + 1)) (omega arith),
    )
sum-ends Closed n h = omega (arith, sum-zero n (λ i. 0) (λ i l. refl))
