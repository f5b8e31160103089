-- Every edge of a list has its reverse just where no edge of it is unmatched; and `NoneTwice` read
-- by places. Assumes nothing.
use Rattle.std.proofs.Common.{sum_by, ◌≡◌, refl, sym, ap, List, [], ◌∷◌, ℕ, zero}
use Rattle.std.proofs.Common.{suc, ◌≤◌, ◌<◌, eq-zero-or-pos, le_of_suc-le-suc, arith, length}
use Rattle.std.proofs.Common.{get_or, ⊎_elim}
use Rattle.std.proofs.lemmas.List.Sums.{sum_by-cons}
use Rattle.edges.specs.Edges.{Edge, reverse, same, count, lacks, unmatched, NoneTwice, AllMatched}
use Rattle.edges.proofs.Zero.{is_zero-no, is_zero-pos}
use Rattle.edges.proofs.Totals.{same_of, same-eq}

-- a total that is 0 is 0 at each edge of the list, and the other way round
zero-at : (f : Edge → ℕ) (es : List Edge) (e : Edge) → sum_by f es ≡ 0 → 1 ≤ count e es → f e ≡ 0
zero-at f [] e z h = absurd (omega arith)
zero-at f (x ∷ es) e z h =
    let all = sum_by-cons f x es in
    let here = sum_by-cons (same e) x es in
    ⊎_elim
    (λ n. zero-at f es e (omega arith) (omega arith))
    (λ p. rw (same-eq e x p) (omega arith))
    (eq-zero-or-pos (same e x))

zero_of : (f : Edge → ℕ) (es : List Edge) → ((e : Edge) → 1 ≤ count e es → f e ≡ 0) → sum_by f es ≡ 0
zero_of f [] h = refl
zero_of f (x ∷ es) h =
    omega (
      arith,
      sum_by-cons f x es,
      h x (omega (arith, sum_by-cons (same x) x es, same_of x x refl)),
      zero_of f es (λ e l. h e (omega (arith, sum_by-cons (same e) x es))),
    )

pub matched-of : (es : List Edge) → unmatched es ≡ 0 → AllMatched es
matched-of es z e h = is_zero-no (count (reverse e) es) (zero-at (lacks es) es e z h)

pub of-matched : (es : List Edge) → AllMatched es → unmatched es ≡ 0
of-matched es m = zero_of (lacks es) es (λ e h. is_zero-pos (count (reverse e) es) (m e h))

-- two places of a list that hold one edge are one place
count_at : (es : List Edge) (p : ℕ) (d e : Edge) → p < length es → e ≡ get_or es p d → 1 ≤ count e es
count_at [] p d e h q = absurd (omega arith)
count_at (x ∷ xs) zero d e h q = omega (arith, sum_by-cons (same e) x xs, same_of e x q)
count_at (x ∷ xs) (suc p) d e h q =
    omega (arith, sum_by-cons (same e) x xs, count_at xs p d e (le_of_suc-le-suc h) q)

pub one_place : (es : List Edge) → NoneTwice es → (p q : ℕ) (d : Edge) → p < length es → q < length es
    → get_or es p d ≡ get_or es q d → p ≡ q
one_place [] u p q d hp hq e = absurd (omega arith)
one_place (x ∷ xs) u zero zero d hp hq e = refl
one_place (x ∷ xs) u zero (suc q) d hp hq e =
    absurd (omega (arith, sum_by-cons (same x) x xs, u x, same_of x x refl, count_at xs q d x (le_of_suc-le-suc hq) e))
one_place (x ∷ xs) u (suc p) zero d hp hq e =
    absurd (omega (arith, sum_by-cons (same x) x xs, u x, same_of x x refl, count_at xs p d x (le_of_suc-le-suc hp) (sym e)))
one_place (x ∷ xs) u (suc p) (suc q) d hp hq e =
    ap suc
    (one_place xs (λ f. omega (arith, sum_by-cons (same f) x xs, u f)) p q d (le_of_suc-le-suc hp) (le_of_suc-le-suc hq) e)
