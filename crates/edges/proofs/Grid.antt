-- The edges of a grid of quads, whichever way it wraps: none comes twice, and those whose quad has
-- no neighbour lack their reverse. Assumes nothing.
use Rattle.std.proofs.Common.{◌≡◌, refl, sym, ap, ◌∙◌, subst₂, ◌⊎◌, inl, inr, Bool, true, false}
use Rattle.std.proofs.Common.{not, ℕ, ◌+◌, ◌*◌, ◌/◌, ◌%◌, ◌≤◌, ◌<◌, eq-zero-or-pos, arith}
use Rattle.std.proofs.Math.Arith.{digits_div, digits_mod}
use Rattle.surface.specs.Grid.{after_of, points_of}
use Rattle.surface.specs.declared.grid.Chain.{Chain}
use Rattle.edges.specs.Edges.{Edge, ◌⟶◌, reverse, least_steps, ends}
use Rattle.laws.specs.Sums.{sum_below}
use Rattle.edges.proofs.Sum.{sum-cong, sum-add, sum-const, sum-mul}
use Rattle.edges.proofs.Chains.{Turn, chain-turn, corner, corner-lt, corner-inj, across-tail, across-head}
use Rattle.edges.proofs.Chains.{outside, outside-le, neighbour, no-neighbour, at_start, at_end, sum-ends}
use Rattle.edges.proofs.Corners.{Corner, opposite, Step, none, onward, back, step, Pattern}
use Rattle.edges.proofs.Places.{Placed, Apart}

-- ---- the steps of an edge

abbrev Goes : (ℕ → ℕ) → Step → ℕ → ℕ → Type 0
Goes next none x y = x ≡ y
Goes next onward x y = y ≡ next x
Goes next back x y = x ≡ next y

goes-once : {next : ℕ → ℕ} {n : ℕ} → Turn next n → (p q : Step) (x y : ℕ) → Goes next p x y → Goes next q x y → p ≡ q
goes-once t none none x y g h = refl
goes-once t none onward x y g h = absurd (t.moves x (cc))
goes-once t none back x y g h = absurd (t.moves x (cc))
goes-once t onward none x y g h = absurd (t.moves x (cc))
goes-once t onward onward x y g h = refl
goes-once t onward back x y g h = absurd (t.twice x (cc))
goes-once t back none x y g h = absurd (t.moves x (cc))
goes-once t back onward x y g h = absurd (t.twice x (cc))
goes-once t back back x y g h = refl

goes : (chain : Chain) (n : ℕ) (x y : Bool) (i : ℕ)
    → Goes (after_of chain n) (step x y) (corner chain n x i) (corner chain n y i)
goes chain n false false i = refl
goes chain n false true i = refl
goes chain n true false i = refl
goes chain n true true i = refl

-- two edges of quads with the same ends make the same step
one-step : (chain : Chain) (n : ℕ) → least_steps chain ≤ n → (x y x' y' : Bool) (i i' : ℕ)
    → corner chain n x i ≡ corner chain n x' i' → corner chain n y i ≡ corner chain n y' i' → step x y ≡ step x' y'
one-step chain n h x y x' y' i i' p q =
    goes-once (chain-turn chain n h) (step x y) (step x' y') (corner chain n x' i') (corner chain n y' i')
    (subst₂ (λ u v. Goes (after_of chain n) (step x y) u v) p q (goes chain n x y i)) (goes chain n x' y' i')

-- ---- the grid

-- vertex c of ring r
abbrev pub vertex : Chain → ℕ → ℕ → ℕ → ℕ → ℕ
vertex round n base r c = base + r * points_of round n + c

pub vertex-inj : (w base r c r' c' : ℕ) → c < w → c' < w → base + r * w + c ≡ base + r' * w + c' → (r ≡ r') × (c ≡ c')
vertex-inj w base r c r' c' h h' p =
    let e : r * w + c ≡ r' * w + c' = omega arith in
    (sym (digits_div r h) ∙ ap (λ (x : ℕ). x / w) e ∙ digits_div r' h', sym (digits_mod r h) ∙ ap (λ (x : ℕ). x % w) e ∙ digits_mod r' h')

-- the edge from corner t to corner h of quad (g, i)
abbrev pub link : Chain → ℕ → Chain → ℕ → ℕ → Corner → Corner → ℕ → ℕ → Edge
link along m round n base t h g i =
    vertex round n base (corner along m t.0 g) (corner round n t.1 i) ⟶ vertex round n base (corner along m h.0 g) (corner round n h.1 i)

-- edge s of quad (g, i)
abbrev pub place : Pattern → Chain → ℕ → Chain → ℕ → ℕ → ℕ → ℕ → ℕ → Edge
place P along m round n base g i s = link along m round n base (P.tail s) (P.head s) g i

module _ (along : Chain) (m : ℕ) (round : Chain) (n : ℕ) (base : ℕ) (hm : least_steps along ≤ m) (hn : least_steps round ≤ n) where
  -- Links that are one edge make the same steps from the same vertex.
  pub record SameLink (t h t' h' : Corner) (g i g' i' : ℕ) : Type 0 where
    pub step-along : step t.0 h.0 ≡ step t'.0 h'.0
    pub step-round : step t.1 h.1 ≡ step t'.1 h'.1
    pub from-ring : corner along m t.0 g ≡ corner along m t'.0 g'
    pub from_place : corner round n t.1 i ≡ corner round n t'.1 i'

  link-same : (t h t' h' : Corner) (g i g' i' : ℕ) → i < n → i' < n
      → link along m round n base t h g i ≡ link along m round n base t' h' g' i' → SameLink t h t' h' g i g' i'
  link-same t h t' h' g i g' i' hi hi' p =
      let tails : at t g i ≡ at t' g' i' = cc in
      let heads : at h g i ≡ at h' g' i' = cc in
      let u = one-corner t t' tails in
      let v = one-corner h h' heads in
      record {
        step-along = one-step along m hm t.0 h.0 t'.0 h'.0 g g' u.0 v.0;
        step-round = one-step round n hn t.1 h.1 t'.1 h'.1 i i' u.1 v.1;
        from-ring = u.0;
        from_place = u.1;
      }
    where
      at : Corner → ℕ → ℕ → ℕ
      at c k j = vertex round n base (corner along m c.0 k) (corner round n c.1 j)

      one-corner : (c c' : Corner) → at c g i ≡ at c' g' i'
          → (corner along m c.0 g ≡ corner along m c'.0 g') × (corner round n c.1 i ≡ corner round n c'.1 i')
      one-corner c c' e =
          vertex-inj (points_of round n) base (corner along m c.0 g) (corner round n c.1 i) (corner along m c'.0 g') (corner round n c'.1 i')
          (corner-lt round n c.1 i hi) (corner-lt round n c'.1 i' hi') e

  module _ (P : Pattern) where
    abbrev at : ℕ → ℕ → ℕ → Edge
    at = place P along m round n base

    by-steps : (s s' : ℕ) (t h : Corner) → s < 6 → P.place_of (step t.0 h.0) (step t.1 h.1) ≡ s'
        → step (P.tail s).0 (P.head s).0 ≡ step t.0 h.0 → step (P.tail s).1 (P.head s).1 ≡ step t.1 h.1 → s ≡ s'
    by-steps s s' t h hs known p q =
        sym (P.known s hs)
        ∙ ap (λ (z : Step). P.place_of z (step (P.tail s).1 (P.head s).1)) p
        ∙ ap (λ (z : Step). P.place_of (step t.0 h.0) z) q
        ∙ known

    pub grid-apart : Apart m n 6 at
    grid-apart g i s g' i' s' hg hi hs hg' hi' hs' p =
        let l = link-same (P.tail s) (P.head s) (P.tail s') (P.head s') g i g' i' hi hi' p in
        let e : s ≡ s' = by-steps s s' (P.tail s') (P.head s') hs (P.known s' hs') l.step-along l.step-round in (
          corner-inj along m hm (P.tail s').0 g g' hg hg' (rw e at l.from-ring),
          corner-inj round n hn (P.tail s').1 i i' hi hi' (rw e at l.from_place),
          e,
        )

    -- ---- the reverse of an edge

    -- how many of the two chains end at this side of the quad
    abbrev pub outer : ℕ → ℕ → ℕ → ℕ
    outer g i s = outside along m (P.tail s).0 (P.head s).0 g + outside round n (P.tail s).1 (P.head s).1 i

    pub grid-mate : (g i s : ℕ) → g < m → i < n → s < 6 → outer g i s ≡ 0 → Placed m n 6 at (reverse (at g i s))
    grid-mate g i s hg hi hs o =
        let u = neighbour along m (P.tail s).0 (P.head s).0 g hg (omega arith) in
        let v = neighbour round n (P.tail s).1 (P.head s).1 i hi (omega arith) in
        let r₁ = across-tail along m (P.tail s).0 (P.head s).0 g u.0 u.2 in
        let r₂ = across-head along m (P.tail s).0 (P.head s).0 g u.0 u.2 in
        let c₁ = across-tail round n (P.tail s).1 (P.head s).1 i v.0 v.2 in
        let c₂ = across-head round n (P.tail s).1 (P.head s).1 i v.0 v.2 in
        (u.0, v.0, P.mate s, u.1, v.1, P.mate-lt s hs, rw (P.mate-tail s hs, P.mate-head s hs, r₁, r₂, c₁, c₂))

    step-opposite : (x y : Bool) → step y x ≡ step (not x) (not y)
    step-opposite false false = refl
    step-opposite false true = refl
    step-opposite true false = refl
    step-opposite true true = refl

    pub grid-lone : (g i s : ℕ) → g < m → i < n → s < 6 → 1 ≤ outer g i s → Placed m n 6 at (reverse (at g i s)) → ⊥
    grid-lone g i s hg hi hs o (g', i', s', hg', hi', hs', p) =
        let t = P.tail s in
        let h = P.head s in
        let l = link-same (P.tail s') (P.head s') h t g' i' g i hi' hi (sym p) in
        let known = rw (P.mate-tail s hs, P.mate-head s hs) at (P.known (P.mate s) (P.mate-lt s hs)) in
        let e : s' ≡ P.mate s =
        by-steps s' (P.mate s) (opposite t) (opposite h) hs' known
        (l.step-along ∙ step-opposite t.0 h.0) (l.step-round ∙ step-opposite t.1 h.1) in
        let from-ring : corner along m (not t.0) g' ≡ corner along m h.0 g = rw (e, P.mate-tail s hs) at l.from-ring in
        let from_place : corner round n (not t.1) i' ≡ corner round n h.1 i =
        rw (e, P.mate-tail s hs) at l.from_place in
        either (eq-zero-or-pos (outside along m t.0 h.0 g)) from-ring from_place
      where
        either : (outside along m (P.tail s).0 (P.head s).0 g ≡ 0) ⊎ (0 < outside along m (P.tail s).0 (P.head s).0 g)
            → corner along m (not (P.tail s).0) g' ≡ corner along m (P.head s).0 g → corner round n (not (P.tail s).1) i' ≡ corner round n (P.head s).1 i → ⊥
        either (inl z) u v = no-neighbour round n (P.tail s).1 (P.head s).1 i i' hi' (omega arith) v
        either (inr q) u v = no-neighbour along m (P.tail s).0 (P.head s).0 g g' hg' q u

    crossing : (chain : Chain) (k : ℕ) (x y : Bool) (j : ℕ) → y ≡ not x → outside chain k x y j ≡ 0
    crossing chain k x y j e = rw e (straight x)
      where
        straight : (x : Bool) → outside chain k x (not x) j ≡ 0
        straight false = refl
        straight true = refl

    -- a side of a quad is a side of the grid once at most
    pub outer-le : (g i s : ℕ) → s < 6 → outer g i s ≤ 1
    outer-le g i s hs = go (P.crosses s hs)
      where
        go : ((P.head s).0 ≡ not (P.tail s).0) ⊎ ((P.head s).1 ≡ not (P.tail s).1) → outer g i s ≤ 1
        go (inl e) = omega (arith, crossing along m (P.tail s).0 (P.head s).0 g e, outside-le round n (P.tail s).1 (P.head s).1 i)
        go (inr e) = omega (arith, crossing round n (P.tail s).1 (P.head s).1 i e, outside-le along m (P.tail s).0 (P.head s).0 g)

    -- the sides of the grid, counted
    pub sum-outer : sum_below m (λ g. sum_below n (λ i. sum_below 6 (λ s. outer g i s))) ≡ n * ends along + m * ends round
    sum-outer =
        sum-cong m _ (λ g. sum_below n (λ i. across g + along-side i)) (λ g hg. sum-cong n _ _ (λ i hi. P.sides (λ x y. outside along m x y g) (λ x y. outside round n x y i) refl refl refl refl))
        ∙ sum-cong m _ (λ g. n * across g + sum_below n along-side) (λ g hg. sum-add n (λ i. across g) along-side ∙ omega (arith, sum-const n (λ i. across g) (across g) (λ i hi. refl)))
        ∙ sum-add m (λ g. n * across g) (λ g. sum_below n along-side)
        ∙ omega (
          arith,
          sum-mul m n across,
          sum-const m (λ g. sum_below n along-side) (sum_below n along-side) (λ g hg. refl),
          ap (λ (k : ℕ). n * k) (sum-add m (λ g. at_start along g) (λ g. at_end along m g) ∙ sum-ends along m hm),
          ap (λ (k : ℕ). m * k) (sum-add n (λ i. at_start round i) (λ i. at_end round n i) ∙ sum-ends round n hn),
        )
      where
        across : ℕ → ℕ
        across g = at_start along g + at_end along m g

        along-side : ℕ → ℕ
        along-side i = at_start round i + at_end round n i
