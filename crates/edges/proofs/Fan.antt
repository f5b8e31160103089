-- n triangles round a pole: (p, x i, y i) for each i below n, as places of one row. Assumes
-- nothing.
use Rattle.std.proofs.Common.{sum_by, ◌≡◌, refl, ◌∙◌, ◌≢◌, [], ◌∷◌, ℕ, zero, suc, ◌<◌, arith, get_or}
use Rattle.laws.specs.Blocks.{blocks}
use Rattle.surface.specs.Triangles.{triangle}
use Rattle.edges.specs.Edges.{Edge, ◌⟶◌, edges}
use Rattle.laws.specs.Sums.{sum_below}
use Rattle.edges.proofs.Sum.{sum-cong}
use Rattle.edges.proofs.Totals.{total-blocks}
use Rattle.edges.proofs.Places.{places, Placed, Apart}

pub below3 : (Q : ℕ → Type 0) → Q 0 → Q 1 → Q 2 → (s : ℕ) → s < 3 → Q s
below3 Q q0 q1 q2 zero h = q0
below3 Q q0 q1 q2 (suc zero) h = q1
below3 Q q0 q1 q2 (suc (suc zero)) h = q2
below3 Q q0 q1 q2 (suc (suc (suc s))) h = absurd (omega arith)

abbrev pub fan : ℕ → (ℕ → ℕ) → (ℕ → ℕ) → ℕ → ℕ → ℕ → Edge
fan p x y g i s = get_or ((p ⟶ x i) ∷ (x i ⟶ y i) ∷ (y i ⟶ p) ∷ []) s (p ⟶ p)

pub fan-total : (p : ℕ) (x y : ℕ → ℕ) (n : ℕ) (f : Edge → ℕ)
    → sum_by f (edges (blocks n (λ i. triangle p (x i) (y i) ∷ []))) ≡ places 1 n 3 (fan p x y) f
fan-total p x y n f =
    total-blocks f n (λ i. triangle p (x i) (y i) ∷ [])
    ∙ sum-cong n _ (λ i. sum_below 3 (λ s. f (fan p x y 0 i s))) (λ i h. omega arith)
    ∙ omega arith

-- A fan closes: the x and the y of its triangles are the same vertices, each once, and the pole is
-- none of them.
pub record Round (p : ℕ) (x y : ℕ → ℕ) (n : ℕ) : Type 0 where
  pub pole-x : (i : ℕ) → i < n → p ≢ x i
  pub pole-y : (i : ℕ) → i < n → p ≢ y i
  pub x-once : (i j : ℕ) → i < n → j < n → x i ≡ x j → i ≡ j
  pub y-once : (i j : ℕ) → i < n → j < n → y i ≡ y j → i ≡ j
  pub x-is-y : (i : ℕ) → i < n → (j : ℕ) × (j < n) × (y j ≡ x i)
  pub y-is-x : (i : ℕ) → i < n → (j : ℕ) × (j < n) × (x j ≡ y i)

module _ (p : ℕ) (x y : ℕ → ℕ) (n : ℕ) (round : Round p x y n) where
  pub fan-apart : Apart 1 n 3 (fan p x y)
  fan-apart g i s g' i' s' hg hi hs hg' hi' hs' =
      below3 (λ s. fan p x y g i s ≡ fan p x y g' i' s' → (g ≡ g') × (i ≡ i') × (s ≡ s'))
      (below3 (λ s'. fan p x y g i 0 ≡ fan p x y g' i' s' → (g ≡ g') × (i ≡ i') × (0 ≡ s'))
      (λ q. (omega arith, round.x-once i i' hi hi' (cc), refl))
      (λ q. absurd (round.pole-x i' hi' (cc)))
      (λ q. absurd (round.pole-y i' hi' (cc))) s' hs')
      (below3 (λ s'. fan p x y g i 1 ≡ fan p x y g' i' s' → (g ≡ g') × (i ≡ i') × (1 ≡ s'))
      (λ q. absurd (round.pole-x i hi (cc)))
      (λ q. (omega arith, round.x-once i i' hi hi' (cc), refl))
      (λ q. absurd (round.pole-y i hi (cc))) s' hs')
      (below3 (λ s'. fan p x y g i 2 ≡ fan p x y g' i' s' → (g ≡ g') × (i ≡ i') × (2 ≡ s'))
      (λ q. absurd (round.pole-y i hi (cc)))
      (λ q. absurd (round.pole-y i' hi' (cc)))
      (λ q. (omega arith, round.y-once i i' hi hi' (cc), refl)) s' hs')
      s hs

  -- the edges at the pole have their reverses in the fan
  pub fan-spoke : (i : ℕ) → i < n → Placed 1 n 3 (fan p x y) (x i ⟶ p)
  fan-spoke i h = let t = round.x-is-y i h in (0, t.0, 2, omega arith, t.1, omega arith, rw t.2)

  pub fan-spoke-back : (i : ℕ) → i < n → Placed 1 n 3 (fan p x y) (p ⟶ y i)
  fan-spoke-back i h = let t = round.y-is-x i h in (0, t.0, 0, omega arith, t.1, omega arith, rw t.2)
