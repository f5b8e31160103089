-- What each turn and each call of the writers writes: quads, rows, triangles of a cap, caps and
-- grids, and how many numbers each has. Assumes nothing.
use Rattle.std.proofs.Common.{◌≡◌, refl, ap, ◌∙◌, true, false, List, [], ◌∷◌, ◌++◌, ℕ, ◌+◌, ◌*◌}
use Rattle.std.proofs.Common.{length, flat_map, append-nil}
use Rattle.laws.proofs.Blocks.{length-blocks}
use Rattle.surface.specs.Triangles.{Triangle, triangle, flatten, rows}
use Rattle.surface.specs.Quads.{quad_of}
use Rattle.surface.specs.Grid.{after_of, points_of, row_triangles, grid_triangles}
use Rattle.surface.specs.Caps.{cap_triangle, cap_triangles}
use Rattle.surface.specs.Whole.{is_capped, ring_size, grid_size, surface_grid, surface_triangles}
use Rattle.surface.specs.declared.quads.Split.{Split}
use Rattle.surface.specs.declared.quads.Split.TheVariants.{Capped, Torus, Tube, Ribbon}
use Rattle.surface.specs.declared.grid.Chain.{Chain}
use Rattle.surface.specs.declared.grid.Chain.TheVariants.{Closed}
use Rattle.surface.specs.declared.caps.End.{End}
use Rattle.surface.specs.declared.caps.End.TheVariants.{Bottom, Top}
use Rattle.surface.specs.declared.whole.Surface.{Surface}
use Rattle.surface.proofs.Flatten.{numbers, flatten-blocks}

-- ---- one quad of a row

-- the numbers of triangles that come as rows of three
rows-numbers : (ts : List Triangle) → flat_map (λ t. t) (rows ts) ≡ flatten ts
rows-numbers [] = refl
rows-numbers (triangle a b c ∷ ts) = ap (λ (l : List ℕ). a ∷ b ∷ c ∷ l) (rows-numbers ts)

length-quad : (split : Split) (a b d e : ℕ) → length (flatten (quad_of split a b d e)) ≡ 6
length-quad Capped a b d e = refl
length-quad Torus a b d e = refl
length-quad Tube a b d e = refl
length-quad Ribbon a b d e = refl

module _ (split : Split) (round : Chain) (n : ℕ) where
  abbrev pub quad_at : ℕ → ℕ → ℕ → List Triangle
  quad_at low high i = quad_of split (low + i) (low + after_of round n i) (high + i) (high + after_of round n i)

  -- a turn that takes the point after i for j writes quad i
  pub quad-written : (low high i : ℕ) {j : ℕ} {q : List (List ℕ)}
      → q ≡ rows (quad_of split (low + i) (low + j) (high + i) (high + j)) → j ≡ after_of round n i
      → flat_map (λ t. t) q ≡ numbers (quad_at low high) i
  quad-written low high i {j} {q} is next =
      ap (λ (r : List (List ℕ)). flat_map (λ t. t) r) is
      ∙ rows-numbers (quad_of split (low + i) (low + j) (high + i) (high + j))
      ∙ ap (λ (x : ℕ). flatten (quad_of split (low + i) (low + x) (high + i) (high + x))) next

  pub length-quad_at : (low high i : ℕ) → length (numbers (quad_at low high) i) ≡ 6
  length-quad_at low high i =
      length-quad split (low + i) (low + after_of round n i) (high + i) (high + after_of round n i)

  pub length-row : (low high : ℕ) → length (flatten (row_triangles split round n low high)) ≡ n * 6
  length-row low high =
      ap length (flatten-blocks n (quad_at low high)) ∙ length-blocks 6 n (numbers (quad_at low high)) (λ i h. length-quad_at low high i)

  -- ---- one row of a grid

  abbrev pub row_at : Chain → ℕ → ℕ → ℕ → List Triangle
  row_at along m base g =
      row_triangles split round n (base + g * points_of round n) (base + after_of along m g * points_of round n)

  pub length-row_at : (along : Chain) (m base g : ℕ) → length (numbers (row_at along m base) g) ≡ n * 6
  length-row_at along m base g =
      length-row (base + g * points_of round n) (base + after_of along m g * points_of round n)

  pub length-grid : (along : Chain) (m base : ℕ)
      → length (flatten (grid_triangles split along m round n base)) ≡ m * (n * 6)
  length-grid along m base =
      ap length (flatten-blocks m (row_at along m base)) ∙ length-blocks (n * 6) m (numbers (row_at along m base)) (λ g h. length-row_at along m base g)

-- ---- one triangle of a cap

length-cap-triangle : (end : End) (pole here next : ℕ) → length (flatten (cap_triangle end pole here next ∷ [])) ≡ 3
length-cap-triangle Bottom pole here next = refl
length-cap-triangle Top pole here next = refl

module _ (end : End) (n pole rim : ℕ) where
  abbrev pub cap_at : ℕ → List Triangle
  cap_at i = cap_triangle end pole (rim + i) (rim + after_of Closed n i) ∷ []

  -- a turn that takes the point after i for j writes triangle i
  pub cap-written : (i : ℕ) {j : ℕ} {t : List ℕ}
      → t ≡ flatten (cap_triangle end pole (rim + i) (rim + j) ∷ []) → j ≡ after_of Closed n i
      → flat_map (λ t. t) (t ∷ []) ≡ numbers cap_at i
  cap-written i {j} {t} is next =
      append-nil t ∙ is ∙ ap (λ (x : ℕ). flatten (cap_triangle end pole (rim + i) (rim + x) ∷ [])) next

  pub length-cap_at : (i : ℕ) → length (numbers cap_at i) ≡ 3
  length-cap_at i = length-cap-triangle end pole (rim + i) (rim + after_of Closed n i)

  pub length-cap : length (flatten (cap_triangles end n pole rim)) ≡ n * 3
  length-cap = ap length (flatten-blocks n cap_at) ∙ length-blocks 3 n (numbers cap_at) (λ i h. length-cap_at i)

-- ---- the parts of a surface

module _ (s : Surface) (first : ℕ) where
  abbrev pub bottom_of : List Triangle
  bottom_of = cap_triangles Bottom s.columns first (first + 1)

  abbrev pub top_of : ℕ → ℕ → List Triangle
  top_of to-pole to-rim = cap_triangles Top s.columns (first + 1 + to-pole) (first + 1 + to-rim)

  pub capped-parts : is_capped s.ending ≡ true
      → surface_triangles s first ≡ bottom_of ++ (surface_grid s (first + 1) ++ top_of (grid_size s) (s.rows * ring_size s))
  unfolding surface_triangles
  capped-parts capped = rw capped

  pub bare_parts : is_capped s.ending ≡ false → surface_triangles s first ≡ surface_grid s first
  unfolding surface_triangles
  bare_parts bare = rw bare
