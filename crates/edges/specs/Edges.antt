-- Directed edges, and what is claimed of them. Document 01, 'Triangle lists', first paragraph, and
-- demand 3. Definitions only.
use Rattle.std.specs.Prelude.{List, [], ◌∷◌, Bool, true, false, ℕ, zero, suc, ◌≤◌, ◌<◌, eqb, sum_by}
use Rattle.surface.specs.Triangles.{Triangle, triangle}
use Rattle.surface.specs.declared.grid.Chain.{Chain}
use Rattle.surface.specs.declared.grid.Chain.TheVariants.{Open, Closed}

-- the directed edge from one vertex to another
infix 40 ◌⟶◌
pub data Edge : Type 0 where
  ◌⟶◌ : ℕ → ℕ → Edge

abbrev pub reverse : Edge → Edge
reverse (a ⟶ b) = b ⟶ a

-- "Triangle (a, b, c) has the directed edges a to b, b to c and c to a": three places for each
-- triangle of a list.
abbrev pub edges : List Triangle → List Edge
edges [] = []
edges (triangle a b c ∷ ts) = (a ⟶ b) ∷ (b ⟶ c) ∷ (c ⟶ a) ∷ edges ts

-- 1 where both tests pass, else 0
abbrev pub both : Bool → Bool → ℕ
both true true = 1
both true false = 0
both false b = 0

-- 1 where the two edges are one, else 0
abbrev pub same : Edge → Edge → ℕ
same (a ⟶ b) (c ⟶ d) = both (eqb a c) (eqb b d)

-- at how many places of a list an edge comes
abbrev pub count : Edge → List Edge → ℕ
count e es = sum_by (same e) es

abbrev pub is_zero : ℕ → ℕ
is_zero zero = 1
is_zero (suc k) = 0

-- 1 where the list lacks the reverse of the edge, else 0
abbrev pub lacks : List Edge → Edge → ℕ
lacks es e = is_zero (count (reverse e) es)

-- "One is used twice if it comes at two places of its body's list": no edge is.
abbrev pub NoneTwice : List Edge → Type 0
NoneTwice es = (e : Edge) → count e es ≤ 1

-- Every edge of the list has its reverse in it.
abbrev pub AllMatched : List Edge → Type 0
AllMatched es = (e : Edge) → 1 ≤ count e es → 1 ≤ count (reverse e) es

-- "and unmatched where its body lacks the reverse": how many places hold an unmatched edge.
abbrev pub unmatched : List Edge → ℕ
unmatched es = sum_by (lacks es) es

-- "No index lies outside": a vertex from least on and below end, and every index of a list so.
abbrev pub Inside : ℕ → ℕ → ℕ → Type 0
Inside least end v = (least ≤ v) × (v < end)

abbrev pub Within : ℕ → ℕ → List Triangle → Type 0
Within least end [] = Unit {0}
Within least end (triangle a b c ∷ ts) =
    Inside least end a × Inside least end b × Inside least end c × Within least end ts

-- How many steps a chain has at least. On a closed one of two the step forward and the step back
-- lead to one point, so that edges meet their reverses that should not.
abbrev pub least_steps : Chain → ℕ
least_steps Open = 1
least_steps Closed = 3

-- How many ends a chain has.
abbrev pub ends : Chain → ℕ
ends Open = 2
ends Closed = 0
