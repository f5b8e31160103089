-- Totals over the edges of a list of triangles, as sums over its blocks. Assumes nothing.
use Rattle.std.proofs.Common.{sum_by, ◌≡◌, refl, List, [], ◌∷◌, ◌++◌, Bool, true, false, ℕ, zero, suc, ◌+◌}
use Rattle.std.proofs.Common.{◌≤◌, ◌<◌, arith, T, eqb, eqb→eq}
use Rattle.std.proofs.Math.Dec.{eqb_refl}
use Rattle.std.proofs.lemmas.List.Sums.{sum_by-append}
use Rattle.laws.specs.Blocks.{blocks}
use Rattle.surface.specs.Triangles.{Triangle, triangle}
use Rattle.edges.specs.Edges.{Edge, ◌⟶◌, edges, both, same, Within}
use Rattle.laws.specs.Sums.{sum_below}

-- ---- two edges that are one

both-le : (a b : Bool) → both a b ≤ 1
both-le true true = omega arith
both-le true false = omega arith
both-le false b = omega arith

both_hold : (a b : Bool) → 1 ≤ both a b → T a × T b
both_hold true true h = (tt, tt)
both_hold true false h = absurd (omega arith)
both_hold false b h = absurd (omega arith)

both_one : (a b : Bool) → T a → T b → both a b ≡ 1
both_one true true t u = refl
both_one true false t u = absurd u
both_one false b t u = absurd t

pub same-le : (e f : Edge) → same e f ≤ 1
same-le (a ⟶ b) (c ⟶ d) = both-le (eqb a c) (eqb b d)

same_self : (e : Edge) → same e e ≡ 1
same_self (a ⟶ b) = both_one (eqb a a) (eqb b b) (eqb_refl a) (eqb_refl b)

pub same_of : (e f : Edge) → e ≡ f → 1 ≤ same e f
same_of e f p = rw (← p) (omega (arith, same_self e))

pub same-eq : (e f : Edge) → 1 ≤ same e f → e ≡ f
same-eq (a ⟶ b) (c ⟶ d) h =
    let t = both_hold (eqb a c) (eqb b d) h in
    let p : a ≡ c = eqb→eq a c t.0 in
    let q : b ≡ d = eqb→eq b d t.1 in
    cc

-- ---- totals

edges-append : (xs ys : List Triangle) → edges (xs ++ ys) ≡ edges xs ++ edges ys
edges-append [] ys = refl
edges-append (triangle a b c ∷ xs) ys = rw (edges-append xs ys) refl

pub total-edges : (f : Edge → ℕ) (xs ys : List Triangle)
    → sum_by f (edges (xs ++ ys)) ≡ sum_by f (edges xs) + sum_by f (edges ys)
total-edges f xs ys = rw (edges-append xs ys) (sum_by-append f (edges xs) (edges ys))

pub total-blocks : (f : Edge → ℕ) (n : ℕ) (F : ℕ → List Triangle)
    → sum_by f (edges (blocks n F)) ≡ sum_below n (λ k. sum_by f (edges (F k)))
total-blocks f zero F = refl
total-blocks f (suc n) F = omega (arith, total-edges f (blocks n F) (F n), total-blocks f n F)

-- ---- indices

pub within-append : (v w : ℕ) (xs ys : List Triangle) → Within v w xs → Within v w ys → Within v w (xs ++ ys)
within-append v w [] ys h k = k
within-append v w (triangle a b c ∷ xs) ys h k = (h.0, h.1, h.2, within-append v w xs ys h.3 k)

pub within-blocks : (v w n : ℕ) (F : ℕ → List Triangle) → ((k : ℕ) → k < n → Within v w (F k)) → Within v w (blocks n F)
within-blocks v w zero F h = tt
within-blocks v w (suc n) F h =
    within-append v w (blocks n F) (F n) (within-blocks v w n F (λ k l. h k (omega arith))) (h n (omega arith))

pub within-widen : (v w v' w' : ℕ) (ts : List Triangle) → v' ≤ v → w ≤ w' → Within v w ts → Within v' w' ts
within-widen v w v' w' [] l u h = tt
within-widen v w v' w' (triangle a b c ∷ ts) l u h =
    (omega arith, omega arith, omega arith, within-widen v w v' w' ts l u h.3)
