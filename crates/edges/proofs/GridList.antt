-- What is claimed of a grid's list of triangles. Assumes nothing.
use Rattle.std.proofs.Common.{sum_by, ◌≡◌, sym, ap, ◌∙◌, ◌⊎◌, inl, inr, false, List, ℕ, ◌+◌, ◌*◌, ◌≤◌, ◌<◌}
use Rattle.std.proofs.Common.{eq-zero-or-pos, arith}
use Rattle.std.proofs.Math.Arith.{digits_lt}
use Rattle.surface.specs.Triangles.{Triangle}
use Rattle.surface.specs.Grid.{after_of, points_of, row_triangles, grid_triangles}
use Rattle.surface.specs.Quads.{quad_of}
use Rattle.surface.specs.declared.grid.Chain.{Chain}
use Rattle.surface.specs.declared.quads.Split.{Split}
use Rattle.surface.specs.declared.quads.Split.TheVariants.{Capped, Torus, Tube, Ribbon}
use Rattle.surface.proofs.Chains.{after-lt}
use Rattle.edges.specs.Edges.{Edge, reverse, edges, same, count, is_zero, lacks, unmatched, NoneTwice}
use Rattle.edges.specs.Edges.{Inside, Within, least_steps, ends}
use Rattle.edges.proofs.Zero.{is_zero-pos}
use Rattle.laws.specs.Sums.{sum_below}
use Rattle.edges.proofs.Sum.{sum-cong}
use Rattle.edges.proofs.Totals.{total-blocks, within-blocks}
use Rattle.edges.proofs.Chains.{corner-lt}
use Rattle.edges.proofs.Corners.{pattern_of}
use Rattle.edges.proofs.Places.{places, places-pos, places-none, places-once}
use Rattle.edges.proofs.Grid.{vertex, place, outer, outer-le, grid-apart, grid-mate, grid-lone, sum-outer}

-- a quad's edges are its pattern's, in some order
abbrev quad_at : Split → Chain → ℕ → Chain → ℕ → ℕ → ℕ → ℕ → List Triangle
quad_at split along m round n base g i =
    let v = vertex round n base in
    quad_of split (v g i) (v g (after_of round n i)) (v (after_of along m g) i) (v (after_of along m g) (after_of round n i))

quad-edges : (split : Split) (along : Chain) (m : ℕ) (round : Chain) (n base g i : ℕ) (f : Edge → ℕ)
    → sum_by f (edges (quad_at split along m round n base g i))
    ≡ sum_below 6 (λ s. f (place (pattern_of split) along m round n base g i s))
quad-edges Capped along m round n base g i f = omega arith
quad-edges Torus along m round n base g i f = omega arith
quad-edges Tube along m round n base g i f = omega arith
quad-edges Ribbon along m round n base g i f = omega arith

-- every vertex of a quad is one of the grid
quad-within : (split : Split) (v w a b d e : ℕ) → Inside v w a → Inside v w b → Inside v w d → Inside v w e
    → Within v w (quad_of split a b d e)
quad-within Capped v w a b d e ha hb hd he = (he, hb, ha, (hd, he, ha, tt))
quad-within Torus v w a b d e ha hb hd he = (ha, hb, hd, (he, hd, hb, tt))
quad-within Tube v w a b d e ha hb hd he = (ha, he, hb, (ha, hd, he, tt))
quad-within Ribbon v w a b d e ha hb hd he = (ha, hb, hd, (hb, he, hd, tt))

module _ (split : Split) (along : Chain) (m : ℕ) (round : Chain) (n : ℕ) (base : ℕ) where
  abbrev list : List Triangle
  list = grid_triangles split along m round n base

  abbrev at : ℕ → ℕ → ℕ → Edge
  at = place (pattern_of split) along m round n base

  pub grid-total : (f : Edge → ℕ) → sum_by f (edges list) ≡ places m n 6 at f
  grid-total f =
      total-blocks f m (λ g. row_triangles split round n (base + g * points_of round n) (base + after_of along m g * points_of round n))
      ∙ sum-cong m _ _ (λ g hg.
      total-blocks f n (quad_at split along m round n base g)
      ∙ sum-cong n _ _ (λ i hi. quad-edges split along m round n base g i f))

  pub in-grid : (r c : ℕ) → r < points_of along m → c < points_of round n
      → Inside base (base + points_of along m * points_of round n) (vertex round n base r c)
  in-grid r c hr hc = omega (arith, digits_lt hr hc)

  pub grid-within : Within base (base + points_of along m * points_of round n) list
  grid-within =
      within-blocks base _ m _ (λ g hg. within-blocks base _ n _ (λ i hi.
      quad-within split base _ _ _ _ _
      (in-grid g i (corner-lt along m false g hg) (corner-lt round n false i hi))
      (in-grid g (after_of round n i) (corner-lt along m false g hg) (after-lt round n i hi))
      (in-grid (after_of along m g) i (after-lt along m g hg) (corner-lt round n false i hi))
      (in-grid (after_of along m g) (after_of round n i) (after-lt along m g hg) (after-lt round n i hi))))

  module _ (hm : least_steps along ≤ m) (hn : least_steps round ≤ n) where
    pub grid-once : NoneTwice (edges list)
    grid-once e = omega (arith, grid-total (same e), places-once m n 6 at (grid-apart along m round n base hm hn (pattern_of split)) e)

    abbrev out : ℕ → ℕ → ℕ → ℕ
    out = outer along m round n base hm hn (pattern_of split)

    lacks-outer : (g i s : ℕ) → g < m → i < n → s < 6 → lacks (edges list) (at g i s) ≡ out g i s
    lacks-outer g i s hg hi hs = go (eq-zero-or-pos (out g i s))
      where
        go : (out g i s ≡ 0) ⊎ (0 < out g i s) → lacks (edges list) (at g i s) ≡ out g i s
        go (inl z) =
            let e = reverse (at g i s) in
            let mate = grid-mate along m round n base hm hn (pattern_of split) g i s hg hi hs z in
            is_zero-pos (count e (edges list)) (omega (arith, grid-total (same e), places-pos m n 6 at e mate)) ∙ sym z
        go (inr p) =
            let e = reverse (at g i s) in
            ap is_zero (grid-total (same e) ∙ places-none m n 6 at e (grid-lone along m round n base hm hn (pattern_of split) g i s hg hi hs p))
            ∙ omega (arith, outer-le along m round n base hm hn (pattern_of split) g i s hs)

    -- A grid that does not close along the curve has the edges of two rings unmatched, one that
    -- does not close round has two lines.
    pub grid-unmatched : unmatched (edges list) ≡ n * ends along + m * ends round
    grid-unmatched =
        grid-total (lacks (edges list))
        ∙ sum-cong m _ _ (λ g hg. sum-cong n _ _ (λ i hi. sum-cong 6 _ _ (λ s hs. lacks-outer g i s hg hi hs)))
        ∙ sum-outer along m round n base hm hn (pattern_of split)
