-- Demand 3's claims on edges and counts hold of every permitted body. Assumes nothing.
use Rattle.std.proofs.Common.{◌≡◌, refl, sym, ap, ◌∙◌, subst, true, List, [], ◌∷◌, ◌++◌, ℕ, suc}
use Rattle.std.proofs.Common.{◌+◌, ◌-◌, ◌*◌, ◌≤◌, zero-add, arith, length, length-append}
use Rattle.laws.specs.Blocks.{blocks}
use Rattle.laws.proofs.Blocks.{length-blocks}
use Rattle.surface.specs.Triangles.{Triangle, triangle, shift}
use Rattle.surface.specs.Grid.{points_of, grid_triangles}
use Rattle.surface.specs.declared.grid.Chain.TheVariants.{Open, Closed}
use Rattle.surface.specs.declared.quads.Split as Split
use Rattle.surface.specs.declared.quads.Split.TheVariants as Splits
use Rattle.surface.specs.declared.grid.Chain.{Chain}
use Rattle.edges.specs.Edges.{Edge, edges, unmatched, NoneTwice, Within, least_steps, ends}
use Rattle.edges.proofs.GridList.{grid-within, grid-once, grid-unmatched}
use Rattle.edges.proofs.Capped.{capped, capped-within, capped-once, capped-matched}
use Rattle.edges.proofs.Matching.{matched-of, of-matched}
use Rattle.kinds.specs.Lists.{next, ring, ribbon_quad, tube_quad, torus_quad, layer_quad, bottom_triangles}
use Rattle.kinds.specs.Lists.{layers, top_triangles, closed_triangles, torus_triangles, tube_triangles}
use Rattle.kinds.specs.Lists.{ribbon_triangles}
use Rattle.kinds.specs.Kinds.{permitted, vertex_count, triangle_count, triangles_of, layers_of}
use Rattle.kinds.specs.Claims.{Reverses, Enough, Claims}
use Rattle.kinds.specs.declared.topology.Topology.{Topology}
use Rattle.kinds.specs.declared.topology.Topology.TheVariants.{Ribbon, Tube, Capsule, Torus, ClosedCylinder}
use Rattle.kinds.proofs.AsSurface.{ribbon-list, tube-list, torus-list, closed-list}
use Rattle.kinds.proofs.Bounds.{Bounds, bounds}

shift_none : (ts : List Triangle) → shift 0 ts ≡ ts
shift_none [] = refl
shift_none (triangle a b c ∷ ts) = λ i. triangle (zero-add a i) (zero-add b i) (zero-add c i) ∷ shift_none ts i

shift-length : (first : ℕ) (ts : List Triangle) → length (shift first ts) ≡ length ts
shift-length first [] = refl
shift-length first (triangle a b c ∷ ts) = ap suc (shift-length first ts)

-- A list of triangles, by what is claimed of it: v vertices numbered from `first` on, no edge
-- twice, u edges unmatched.
record Listed (first v u : ℕ) (ts : List Triangle) : Type 0 where
  inside : Within first (first + v) ts
  once : NoneTwice (edges ts)
  open-edges : unmatched (edges ts) ≡ u

grid-listed : (split : Split.Split) (along round : Chain) (m n first v u : ℕ) → least_steps along ≤ m
    → least_steps round ≤ n
    → points_of along m * points_of round n ≡ v → n * ends along + m * ends round ≡ u → Listed first v u (grid_triangles split along m round n first)
grid-listed split along round m n first v u hm hn ev eu = record {
  inside = subst (λ (x : ℕ). Within first (first + x) (grid_triangles split along m round n first)) ev (grid-within split along m round n first);
  once = grid-once split along m round n first hm hn;
  open-edges = grid-unmatched split along m round n first hm hn ∙ eu;
}

module _ (first : ℕ) where
  -- a body's list is that of its surface
  as-listed : (v u : ℕ) {ts ss : List Triangle} → ts ≡ ss → Listed first v u ss → Listed first v u ts
  as-listed v u e l = subst (λ (x : List Triangle). Listed first v u x) (sym e) l

  ribbon-listed : (m : ℕ) → 1 ≤ m → Listed first (2 * (m + 1)) (2 * m + 2) (shift first (ribbon_triangles m))
  ribbon-listed m hm = as-listed _ _ (ribbon-list m first) (grid-listed Splits.Ribbon Open Open m 1 first _ _ hm (omega arith) (omega arith) (omega arith))

  tube-listed : (n m : ℕ) → 3 ≤ n → 1 ≤ m → Listed first (n * (m + 1)) (2 * n) (shift first (tube_triangles n m))
  tube-listed n m hn hm = as-listed _ _ (tube-list n m first) (grid-listed Splits.Tube Open Closed m n first _ _ hm hn (omega arith) (omega arith))

  torus-listed : (n N : ℕ) → 3 ≤ n → 3 ≤ N → Listed first (N * n) 0 (shift first (torus_triangles n N))
  torus-listed n N hn hN = as-listed _ _ (torus-list n N first) (grid-listed Splits.Torus Closed Closed N n first _ _ hN hn (omega arith) (omega arith))

  closed-listed : (n S : ℕ) → 3 ≤ n → 1 ≤ S → Listed first (n * (S + 1) + 2) 0 (shift first (closed_triangles n S))
  closed-listed n S hn hS = as-listed _ _ (closed-list n S first) (record {
    inside = subst (λ (x : ℕ). Within first x (capped n S first)) (omega arith) (capped-within n S first);
    once = capped-once n S first hn hS;
    open-edges = of-matched (edges (capped n S first)) (capped-matched n S first hn hS);
  })

-- ---- how many triangles

rows-length : (m n w : ℕ) (f : ℕ → ℕ → List Triangle) → ((g i : ℕ) → length (f g i) ≡ w)
    → length (blocks m (λ g. blocks n (f g))) ≡ m * (n * w)
rows-length m n w f h = length-blocks (n * w) m _ (λ g hg. length-blocks w n (f g) (λ i hi. h g i))

closed-length : (n S : ℕ) → length (closed_triangles n S) ≡ 2 * n * (S + 1)
closed-length n S =
    omega (
      arith,
      length-append (bottom_triangles n) (layers n S ++ top_triangles n S),
      length-append (layers n S) (top_triangles n S),
      length-blocks 1 n (λ i. triangle 0 (ring n 0 i) (ring n 0 (next n i)) ∷ []) (λ i h. refl),
      rows-length S n 2 (layer_quad n) (λ g i. refl),
      length-blocks 1 n (λ i. triangle (n * (S + 1) + 1) (ring n S (next n i)) (ring n S i) ∷ []) (λ i h. refl),
    )

-- ---- the theorem

-- how many edges are unmatched, for every kind alike
abbrev open_edges : Topology → ℕ
open_edges (Ribbon k) = 2 * k.segments + 2
open_edges (Tube k) = 2 * k.divisions
open_edges (Capsule k) = 0
open_edges (Torus k) = 0
open_edges (ClosedCylinder k) = 0

reversed : (t : Topology) (es : List Edge) → unmatched es ≡ open_edges t → Reverses t es
reversed (Ribbon k) es e = search (matched-of, arith)
reversed (Tube k) es e = search (matched-of, arith)
reversed (Capsule k) es e = search (matched-of, arith)
reversed (Torus k) es e = search (matched-of, arith)
reversed (ClosedCylinder k) es e = search (matched-of, arith)

listed : (t : Topology) → Enough t → (first : ℕ)
    → Listed first (vertex_count t) (open_edges t) (shift first (triangles_of t))
listed (Ribbon k) h first = ribbon-listed first k.segments h
listed (Tube k) h first = tube-listed first k.divisions k.segments h.0 h.1
listed (Capsule k) h first = closed-listed first k.divisions (layers_of k) h.0 (omega arith)
listed (Torus k) h first = torus-listed first k.divisions k.vertices h.0 h.1
listed (ClosedCylinder k) h first = closed-listed first k.divisions k.layers h.0 h.1

counted : (t : Topology) → length (triangles_of t) ≡ triangle_count t
counted (Ribbon k) = omega (arith, length-blocks 2 k.segments ribbon_quad (λ j l. refl))
counted (Tube k) = omega (arith, rows-length k.segments k.divisions 2 (tube_quad k.divisions) (λ g i. refl))
counted (Capsule k) = closed-length k.divisions (layers_of k)
counted (Torus k) =
    omega (arith, rows-length k.vertices k.divisions 2 (torus_quad k.divisions k.vertices) (λ g i. refl))
counted (ClosedCylinder k) = closed-length k.divisions k.layers

-- of the list that `write_triangles` writes
pub claims : (t : Topology) → Enough t → (first : ℕ) → Claims t first (shift first (triangles_of t))
claims t h first =
    let l = listed t h first in
    record {
      inside = l.inside;
      once = l.once;
      reverses = reversed t (edges (shift first (triangles_of t))) l.open-edges;
      triangles = shift-length first (triangles_of t) ∙ counted t;
    }

-- of the local list
pub local-claims : (t : Topology) → Enough t → Claims t 0 (triangles_of t)
local-claims t h = subst (λ (ts : List Triangle). Claims t 0 ts) (shift_none (triangles_of t)) (claims t h 0)

enough : (t : Topology) → Bounds t → Enough t
enough (Ribbon k) b = b.0
enough (Tube k) b = (b.0.0, b.1.0)
enough (Capsule k) b = (b.0.0, b.3)
enough (Torus k) b = (b.0.0, b.1.0)
enough (ClosedCylinder k) b = (b.0.0, b.1.0)

-- every permitted body, local and with its first vertex added
pub permitted-claims : (t : Topology) → permitted t ≡ true
    → Claims t 0 (triangles_of t) × ((first : ℕ) → Claims t first (shift first (triangles_of t)))
permitted-claims t p = let h = enough t (bounds t p) in (local-claims t h, claims t h)

-- "A capsule of n divisions and m segments has exactly 2n(2L + m - 1) triangles, L being its
-- longitude divisions."
pub capsule-triangles : (n L m : ℕ) → 3 ≤ 2 * L + m
    → length (triangles_of (Capsule (record { divisions = n; longitudes = L; segments = m })))
    ≡ 2 * n * (2 * L + m - 1)
capsule-triangles n L m h =
    let e : 2 * L + m - 2 + 1 ≡ 2 * L + m - 1 = omega arith in
    closed-length n (2 * L + m - 2) ∙ ap (λ (x : ℕ). 2 * n * x) e
