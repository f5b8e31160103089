-- Totals over places (g, i, s): row, column, place in the cell; and what they tell of a list of
-- edges. Assumes nothing.
use Rattle.std.proofs.Common.{⊎_elim, ◌≡◌, sym, ◌∙◌, ℕ, ◌≤◌, ◌<◌, eq-zero-or-pos}
use Rattle.edges.specs.Edges.{Edge, same}
use Rattle.laws.specs.Sums.{sum_below}
use Rattle.edges.proofs.Sum.{sum-pos, sum-find, sum-once}
use Rattle.edges.proofs.Totals.{same-le, same-eq, same_of}

abbrev pub places : ℕ → ℕ → ℕ → (ℕ → ℕ → ℕ → Edge) → (Edge → ℕ) → ℕ
places m n w at f = sum_below m (λ g. sum_below n (λ i. sum_below w (λ s. f (at g i s))))

-- a place that holds the edge
abbrev pub Placed : ℕ → ℕ → ℕ → (ℕ → ℕ → ℕ → Edge) → Edge → Type 0
Placed m n w at e = (g : ℕ) × (i : ℕ) × (s : ℕ) × (g < m) × (i < n) × (s < w) × (e ≡ at g i s)

-- no edge stands at two places
abbrev pub Apart : ℕ → ℕ → ℕ → (ℕ → ℕ → ℕ → Edge) → Type 0
Apart m n w at = (g i s g' i' s' : ℕ) → g < m → i < n → s < w → g' < m → i' < n → s' < w → at g i s ≡ at g' i' s' → (g ≡ g') × (i ≡ i') × (s ≡ s')

module _ (m n w : ℕ) (at : ℕ → ℕ → ℕ → Edge) where
  pub places-pos : (e : Edge) → Placed m n w at e → 1 ≤ places m n w at (same e)
  places-pos e t =
      sum-pos m _ t.0 t.3
      (sum-pos n (λ i. sum_below w (λ s. same e (at t.0 i s))) t.1 t.4
      (sum-pos w (λ s. same e (at t.0 t.1 s)) t.2 t.5 (same_of e (at t.0 t.1 t.2) t.6)))

  pub places-find : (e : Edge) → 1 ≤ places m n w at (same e) → Placed m n w at e
  places-find e h =
      let x = sum-find m (λ g. sum_below n (λ i. sum_below w (λ s. same e (at g i s)))) h in
      let y = sum-find n (λ i. sum_below w (λ s. same e (at x.0 i s))) x.2 in
      let z = sum-find w (λ s. same e (at x.0 y.0 s)) y.2 in
      (x.0, y.0, z.0, x.1, y.1, z.1, same-eq e (at x.0 y.0 z.0) z.2)

  pub places-none : (e : Edge) → (Placed m n w at e → ⊥) → places m n w at (same e) ≡ 0
  places-none e nowhere =
      ⊎_elim (λ z. z) (λ p. absurd (nowhere (places-find e p))) (eq-zero-or-pos (places m n w at (same e)))

  pub places-once : Apart m n w at → (e : Edge) → places m n w at (same e) ≤ 1
  places-once apart e =
      sum-once m (λ g. sum_below n (λ i. sum_below w (λ s. same e (at g i s)))) (λ g hg. row g hg) (λ g g' hg hg' p q.
      let y = sum-find n (λ i. sum_below w (λ s. same e (at g i s))) p in
      let z = sum-find w (λ s. same e (at g y.0 s)) y.2 in
      let y' = sum-find n (λ i. sum_below w (λ s. same e (at g' i s))) q in
      let z' = sum-find w (λ s. same e (at g' y'.0 s)) y'.2 in
      (apart g y.0 z.0 g' y'.0 z'.0 hg y.1 z.1 hg' y'.1 z'.1
      (sym (same-eq e (at g y.0 z.0) z.2) ∙ same-eq e (at g' y'.0 z'.0) z'.2)).0)
    where
      cell : (g i : ℕ) → g < m → i < n → sum_below w (λ s. same e (at g i s)) ≤ 1
      cell g i hg hi =
          sum-once w (λ s. same e (at g i s)) (λ s hs. same-le e (at g i s)) (λ s s' hs hs' p q.
          (apart g i s g i s' hg hi hs hg hi hs' (sym (same-eq e (at g i s) p) ∙ same-eq e (at g i s') q)).2)

      row : (g : ℕ) → g < m → sum_below n (λ i. sum_below w (λ s. same e (at g i s))) ≤ 1
      row g hg =
          sum-once n (λ i. sum_below w (λ s. same e (at g i s))) (λ i hi. cell g i hg hi) (λ i i' hi hi' p q.
          let z = sum-find w (λ s. same e (at g i s)) p in
          let z' = sum-find w (λ s. same e (at g i' s)) q in
          (apart g i z.0 g i' z'.0 hg hi z.1 hg hi' z'.1
          (sym (same-eq e (at g i z.0) z.2) ∙ same-eq e (at g i' z'.0) z'.2)).1)
