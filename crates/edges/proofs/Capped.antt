-- A grid of rings between two caps: what is claimed of its list. Assumes nothing.
use Rattle.std.proofs.Common.{sum_by, ◌≡◌, refl, sym, ap, ◌∙◌, subst, ◌⊎◌, inl, inr, ◌≢◌, List, ◌++◌, ℕ}
use Rattle.std.proofs.Common.{◌+◌, ◌-◌, ◌*◌, ◌≤◌, ◌<◌, eq-zero-or-pos, mul-le-mul_right, arith}
use Rattle.surface.specs.Triangles.{Triangle}
use Rattle.surface.specs.Grid.{after_of, grid_triangles}
use Rattle.surface.specs.Caps.{cap_triangles}
use Rattle.surface.specs.declared.grid.Chain.TheVariants.{Open, Closed}
use Rattle.surface.specs.declared.caps.End.{End}
use Rattle.surface.specs.declared.caps.End.TheVariants.{Bottom, Top}
use Rattle.surface.specs.declared.quads.Split.TheVariants.{Capped}
use Rattle.surface.proofs.Chains.{after-lt}
use Rattle.edges.specs.Edges.{Edge, ◌⟶◌, reverse, edges, same, count, is_zero, NoneTwice, AllMatched}
use Rattle.edges.specs.Edges.{Inside, Within}
use Rattle.edges.proofs.Zero.{is_zero-yes}
use Rattle.edges.proofs.Totals.{total-edges, within-append, within-blocks, within-widen}
use Rattle.edges.proofs.Chains.{chain-turn, before, corner, corner-lt}
use Rattle.edges.proofs.Corners.{below6, pattern_of}
use Rattle.edges.proofs.Places.{places, Placed, places-pos, places-find, places-once}
use Rattle.edges.proofs.Grid.{place, outer, grid-apart, grid-mate, grid-lone}
use Rattle.edges.proofs.GridList.{grid-total, grid-within, in-grid}
use Rattle.edges.proofs.Fan.{below3, fan, fan-total, Round, fan-apart, fan-spoke, fan-spoke-back}

-- ---- a cap by its end

-- the vertices of a cap's triangles on the ring of n whose first vertex is rim
abbrev second : End → ℕ → ℕ → ℕ → ℕ
second Bottom n rim i = rim + i
second Top n rim i = rim + after_of Closed n i

abbrev third : End → ℕ → ℕ → ℕ → ℕ
third Bottom n rim i = rim + after_of Closed n i
third Top n rim i = rim + i

abbrev cap : End → ℕ → ℕ → ℕ → ℕ → ℕ → ℕ → Edge
cap end n pole rim = fan pole (second end n rim) (third end n rim)

cap-total : (end : End) (n pole rim : ℕ) (f : Edge → ℕ)
    → sum_by f (edges (cap_triangles end n pole rim)) ≡ places 1 n 3 (cap end n pole rim) f
cap-total Bottom n pole rim f = fan-total pole (second Bottom n rim) (third Bottom n rim) n f
cap-total Top n pole rim f = fan-total pole (second Top n rim) (third Top n rim) n f

module _ (n pole rim : ℕ) (hn : 3 ≤ n) (off : (i : ℕ) → i < n → pole ≢ rim + i) where
  lt : (i : ℕ) → i < n → after_of Closed n i < n
  lt i h = after-lt Closed n i h

  once : (i j : ℕ) → i < n → j < n → rim + after_of Closed n i ≡ rim + after_of Closed n j → i ≡ j
  once i j hi hj p = (chain-turn Closed n hn).one_way i j hi hj (omega arith)

  back : (i : ℕ) → i < n → (j : ℕ) × (j < n) × (rim + after_of Closed n j ≡ rim + i)
  back i h = let t = before n i h in (t.0, t.1, ap (λ (k : ℕ). rim + k) t.2)

  cap-round : (end : End) → Round pole (second end n rim) (third end n rim) n
  cap-round Bottom = record {
    pole-x = off;
    pole-y = λ i h. off (after_of Closed n i) (lt i h);
    x-once = λ i j hi hj p. omega arith;
    y-once = once;
    x-is-y = back;
    y-is-x = λ i h. (after_of Closed n i, lt i h, refl);
  }
  cap-round Top = record {
    pole-x = λ i h. off (after_of Closed n i) (lt i h);
    pole-y = off;
    x-once = once;
    y-once = λ i j hi hj p. omega arith;
    x-is-y = λ i h. (after_of Closed n i, lt i h, refl);
    y-is-x = back;
  }

-- three counts of at most 1, no two of them 1 at once
three-once : (x y z : ℕ) → x ≤ 1 → y ≤ 1 → z ≤ 1 → (1 ≤ x → 1 ≤ y → ⊥) → (1 ≤ x → 1 ≤ z → ⊥)
    → (1 ≤ z → 1 ≤ y → ⊥) → x + (y + z) ≤ 1
three-once x y z hx hy hz xy xz zy = go (eq-zero-or-pos x) (eq-zero-or-pos y) (eq-zero-or-pos z)
  where
    go : (x ≡ 0) ⊎ (0 < x) → (y ≡ 0) ⊎ (0 < y) → (z ≡ 0) ⊎ (0 < z) → x + (y + z) ≤ 1
    go (inl a) (inl b) c = omega arith
    go (inl a) (inr b) (inl c) = omega arith
    go (inl a) (inr b) (inr c) = absurd (zy c b)
    go (inr a) (inl b) (inl c) = omega arith
    go (inr a) (inl b) (inr c) = absurd (xz a c)
    go (inr a) (inr b) c = absurd (xy a b)

abbrev leaves : Edge → ℕ
leaves (u ⟶ v) = u

abbrev reaches : Edge → ℕ
reaches (u ⟶ v) = v

-- ---- the whole list

module _ (n S first : ℕ) where
  abbrev pole : End → ℕ
  pole Bottom = first
  pole Top = first + 1 + (S + 1) * n

  abbrev rim : End → ℕ
  rim Bottom = first + 1
  rim Top = first + 1 + S * n

  abbrev cap_list : End → List Triangle
  cap_list end = cap_triangles end n (pole end) (rim end)

  abbrev grid : List Triangle
  grid = grid_triangles Capped Open S Closed n (first + 1)

  abbrev pub capped : List Triangle
  capped = cap_list Bottom ++ (grid ++ cap_list Top)

  abbrev at : ℕ → ℕ → ℕ → Edge
  at = place (pattern_of Capped) Open S Closed n (first + 1)

  abbrev cap_at : End → ℕ → ℕ → ℕ → Edge
  cap_at end = cap end n (pole end) (rim end)

  capped-total : (f : Edge → ℕ)
      → sum_by f (edges capped) ≡ places 1 n 3 (cap_at Bottom) f + (places S n 6 at f + places 1 n 3 (cap_at Top) f)
  capped-total f =
      total-edges f (cap_list Bottom) (grid ++ cap_list Top)
      ∙ omega (
        arith,
        total-edges f grid (cap_list Top),
        cap-total Bottom n (pole Bottom) (rim Bottom) f,
        grid-total Capped Open S Closed n (first + 1) f,
        cap-total Top n (pole Top) (rim Top) f,
      )

  -- ---- the ring next to a cap: the quads there, and their side that the cap closes

  abbrev row : End → ℕ
  row Bottom = 0
  row Top = S - 1

  abbrev slot : End → ℕ
  slot Bottom = 0
  slot Top = 3

  module _ (hn : 3 ≤ n) (hS : 1 ≤ S) where
    row_lt : (end : End) → row end < S
    row_lt Bottom = omega arith
    row_lt Top = omega arith

    slot_lt : (end : End) → slot end < 6
    slot_lt Bottom = omega arith
    slot_lt Top = omega arith

    rim-edge : (end : End) (i : ℕ) → cap_at end 0 i 1 ≡ reverse (at (row end) i (slot end))
    rim-edge Bottom i =
        let e : first + 1 + 0 * n ≡ first + 1 = omega arith in
        rw e
    rim-edge Top i = let e : S - 1 + 1 ≡ S = omega arith in rw e

    abbrev out : ℕ → ℕ → ℕ → ℕ
    out = outer Open S Closed n (first + 1) hS hn (pattern_of Capped)

    rim-out : (end : End) (i : ℕ) → 1 ≤ out (row end) i (slot end)
    rim-out Bottom i = omega arith
    rim-out Top i = let e : S - (S - 1 + 1) ≡ 0 = omega arith in rw e (omega arith)

    pole-off : (end : End) (i : ℕ) → i < n → pole end ≢ rim end + i
    pole-off Bottom i h = omega arith
    pole-off Top i h = omega arith

    round : (end : End) → Round (pole end) (second end n (rim end)) (third end n (rim end)) n
    round end = cap-round n (pole end) (rim end) hn (pole-off end) end

    -- a pole is no vertex of the grid
    off-grid : (end : End) (v : ℕ) → Inside (first + 1) (first + 1 + (S + 1) * n) v → pole end ≢ v
    off-grid Bottom v h = omega arith
    off-grid Top v h = omega arith

    grid-leaves : (g i s : ℕ) → g < S → i < n → s < 6 → Inside (first + 1) (first + 1 + (S + 1) * n) (leaves (at g i s))
    grid-leaves g i s hg hi hs =
        let t = (pattern_of Capped).tail s in
        in-grid Capped Open S Closed n (first + 1) (corner Open S t.0 g) (corner Closed n t.1 i) (corner-lt Open S t.0 g hg) (corner-lt Closed n t.1 i hi)

    grid-reaches : (g i s : ℕ) → g < S → i < n → s < 6
        → Inside (first + 1) (first + 1 + (S + 1) * n) (reaches (at g i s))
    grid-reaches g i s hg hi hs =
        let h = (pattern_of Capped).head s in
        in-grid Capped Open S Closed n (first + 1) (corner Open S h.0 g) (corner Closed n h.1 i) (corner-lt Open S h.0 g hg) (corner-lt Closed n h.1 i hi)

    -- ---- no edge twice

    cap-grid : (end : End) (e : Edge) → Placed 1 n 3 (cap_at end) e → Placed S n 6 at e → ⊥
    cap-grid end e (k, i, s, hk, hi, hs, p) (g', i', s', hg', hi', hs', q) =
        below3 (λ s. e ≡ cap_at end k i s → ⊥)
        (λ p. off-grid end (leaves (at g' i' s')) (grid-leaves g' i' s' hg' hi' hs') (ap leaves (sym p ∙ q)))
        (λ p. grid-lone Open S Closed n (first + 1) hS hn (pattern_of Capped) (row end) i (slot end) (row_lt end) hi (slot_lt end) (rim-out end i)
        (g', i', s', hg', hi', hs', sym (rim-edge end i) ∙ sym p ∙ q))
        (λ p. off-grid end (reaches (at g' i' s')) (grid-reaches g' i' s' hg' hi' hs') (ap reaches (sym p ∙ q)))
        s hs p

    -- the cap below has no vertex past the first ring, the cap above none on it
    bottom-leaves : (k i s : ℕ) → i < n → s < 3 → leaves (cap_at Bottom k i s) < first + 1 + n
    bottom-leaves k i s hi hs =
        below3 (λ s. leaves (cap_at Bottom k i s) < first + 1 + n) (omega arith) (omega arith) (omega (arith, after-lt Closed n i hi)) s hs

    top-leaves : (k i s : ℕ) → i < n → s < 3 → first + 1 + n ≤ leaves (cap_at Top k i s)
    top-leaves k i s hi hs =
        let h : 1 * n ≤ S * n = mul-le-mul_right n hS in
        below3 (λ s. first + 1 + n ≤ leaves (cap_at Top k i s)) (omega arith) (omega arith) (omega arith) s hs

    caps-apart : (e : Edge) → Placed 1 n 3 (cap_at Bottom) e → Placed 1 n 3 (cap_at Top) e → ⊥
    caps-apart e (k, i, s, hk, hi, hs, p) (k', i', s', hk', hi', hs', q) =
        let l : leaves (cap_at Bottom k i s) ≡ leaves (cap_at Top k' i' s') = ap leaves (sym p ∙ q) in
        omega (arith, bottom-leaves k i s hi hs, top-leaves k' i' s' hi' hs')

    cap-once : (end : End) (e : Edge) → places 1 n 3 (cap_at end) (same e) ≤ 1
    cap-once end e = places-once 1 n 3 (cap_at end) (fan-apart (pole end) (second end n (rim end)) (third end n (rim end)) n (round end)) e

    pub capped-once : NoneTwice (edges capped)
    capped-once e =
        subst (λ (k : ℕ). k ≤ 1) (sym (capped-total (same e)))
        (three-once _ _ _ (cap-once Bottom e) (places-once S n 6 at (grid-apart Open S Closed n (first + 1) hS hn (pattern_of Capped)) e) (cap-once Top e)
        (λ h k. cap-grid Bottom e (places-find 1 n 3 (cap_at Bottom) e h) (places-find S n 6 at e k))
        (λ h k. caps-apart e (places-find 1 n 3 (cap_at Bottom) e h) (places-find 1 n 3 (cap_at Top) e k))
        (λ h k. cap-grid Top e (places-find 1 n 3 (cap_at Top) e h) (places-find S n 6 at e k)))

    -- ---- every edge matched

    in_cap : (end : End) (e : Edge) → Placed 1 n 3 (cap_at end) e → 1 ≤ count e (edges capped)
    in_cap Bottom e t = omega (arith, capped-total (same e), places-pos 1 n 3 (cap_at Bottom) e t)
    in_cap Top e t = omega (arith, capped-total (same e), places-pos 1 n 3 (cap_at Top) e t)

    in-sides : (e : Edge) → Placed S n 6 at e → 1 ≤ count e (edges capped)
    in-sides e t = omega (arith, capped-total (same e), places-pos S n 6 at e t)

    cap-mate : (end : End) (e : Edge) → Placed 1 n 3 (cap_at end) e → 1 ≤ count (reverse e) (edges capped)
    cap-mate end e (k, i, s, hk, hi, hs, p) =
        rw p (below3 (λ s. 1 ≤ count (reverse (cap_at end k i s)) (edges capped))
        (in_cap end _ (fan-spoke (pole end) (second end n (rim end)) (third end n (rim end)) n (round end) i hi))
        (in-sides (reverse (cap_at end k i 1)) (row end, i, slot end, row_lt end, hi, slot_lt end, ap reverse (rim-edge end i)))
        (in_cap end _ (fan-spoke-back (pole end) (second end n (rim end)) (third end n (rim end)) n (round end) i hi))
        s hs)

    inner-mate : (g i s : ℕ) → g < S → i < n → s < 6 → out g i s ≡ 0 → 1 ≤ count (reverse (at g i s)) (edges capped)
    inner-mate g i s hg hi hs o = in-sides (reverse (at g i s)) (grid-mate Open S Closed n (first + 1) hS hn (pattern_of Capped) g i s hg hi hs o)

    -- the reverse of the side that a cap closes
    closed-by : (end : End) (i : ℕ) → i < n → 1 ≤ count (reverse (at (row end) i (slot end))) (edges capped)
    closed-by end i hi = in_cap end _ (0, i, 1, omega arith, hi, omega arith, sym (rim-edge end i))

    side-mate : (g i s : ℕ) → g < S → i < n → s < 6 → 1 ≤ count (reverse (at g i s)) (edges capped)
    side-mate g i s hg hi hs =
        below6 (λ s. 1 ≤ count (reverse (at g i s)) (edges capped))
        (low (eq-zero-or-pos (is_zero g)))
        (inner-mate g i 1 hg hi (omega arith) refl)
        (inner-mate g i 2 hg hi (omega arith) refl)
        (high (eq-zero-or-pos (is_zero (S - (g + 1)))))
        (inner-mate g i 4 hg hi (omega arith) refl)
        (inner-mate g i 5 hg hi (omega arith) refl) s hs
      where
        low : (is_zero g ≡ 0) ⊎ (0 < is_zero g) → 1 ≤ count (reverse (at g i 0)) (edges capped)
        low (inl z) = inner-mate g i 0 hg hi (omega arith) (omega arith)
        low (inr p) =
            subst (λ (k : ℕ). 1 ≤ count (reverse (at k i 0)) (edges capped)) (sym (is_zero-yes g p)) (closed-by Bottom i hi)

        high : (is_zero (S - (g + 1)) ≡ 0) ⊎ (0 < is_zero (S - (g + 1))) → 1 ≤ count (reverse (at g i 3)) (edges capped)
        high (inl z) = inner-mate g i 3 hg hi (omega arith) (omega arith)
        high (inr p) =
            let z = is_zero-yes (S - (g + 1)) p in
            let e : S - 1 ≡ g = omega arith in
            subst (λ (k : ℕ). 1 ≤ count (reverse (at k i 3)) (edges capped)) e (closed-by Top i hi)

    pub capped-matched : AllMatched (edges capped)
    capped-matched e h =
        go (eq-zero-or-pos (places 1 n 3 (cap_at Bottom) (same e))) (eq-zero-or-pos (places S n 6 at (same e)))
      where
        go : (places 1 n 3 (cap_at Bottom) (same e) ≡ 0) ⊎ (0 < places 1 n 3 (cap_at Bottom) (same e))
            → (places S n 6 at (same e) ≡ 0) ⊎ (0 < places S n 6 at (same e)) → 1 ≤ count (reverse e) (edges capped)
        go (inr p) b = cap-mate Bottom e (places-find 1 n 3 (cap_at Bottom) e p)
        go (inl a) (inr p) = let t = places-find S n 6 at e p in rw t.6 (side-mate t.0 t.1 t.2 t.3 t.4 t.5)
        go (inl a) (inl b) = cap-mate Top e (places-find 1 n 3 (cap_at Top) e (omega (arith, capped-total (same e))))

  -- ---- no index outside

  cap-within : (end : End) (v w pole rim : ℕ) → Inside v w pole → v ≤ rim → rim + n ≤ w
      → Within v w (cap_triangles end n pole rim)
  cap-within Bottom v w pole rim hp l u =
      within-blocks v w n _ (λ i h. (hp, omega arith, omega (arith, after-lt Closed n i h), tt))
  cap-within Top v w pole rim hp l u =
      within-blocks v w n _ (λ i h. (hp, omega (arith, after-lt Closed n i h), omega arith, tt))

  pub capped-within : Within first (first + ((S + 1) * n + 2)) capped
  capped-within =
      within-append first _ (cap_list Bottom) (grid ++ cap_list Top)
      (cap-within Bottom first _ (pole Bottom) (rim Bottom) (omega arith) (omega arith) (omega arith))
      (within-append first _ grid (cap_list Top)
      (within-widen (first + 1) (first + 1 + (S + 1) * n) first _ grid (omega arith) (omega arith) (grid-within Capped Open S Closed n (first + 1)))
      (cap-within Top first _ (pole Top) (rim Top) (omega arith) (omega arith) (omega arith)))
