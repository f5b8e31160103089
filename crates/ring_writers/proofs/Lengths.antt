-- How many floats the vertices of rings, caps and closed cylinders are, and the closed cylinder's
-- parts put together. Assumes nothing.
use Rattle.std.proofs.Common.{◌≡◌, refl, sym, ap, ◌∙◌, Bool, cond, List, [], ◌++◌, ℕ, zero, suc, ◌+◌, ◌-◌, ◌*◌, ◌<◌}
use Rattle.std.proofs.Common.{append-nil, append_assoc, arith, eq-eqb, ne_eqb, eqb, Float, length, length-append}
use Rattle.laws.specs.Blocks.{blocks}
use Rattle.laws.proofs.Blocks.{length-blocks, blocks-cong, blocks-ends}
use Rattle.surface.specs.declared.caps.End.{End}
use Rattle.surface.specs.declared.caps.End.TheVariants.{Bottom, Top}
use Rattle.vec3.specs.Points.{coordinates, plus}
use Rattle.vec3.specs.Turns.{turn_of}
use Rattle.vec3.specs.declared.points.Point.{Point}
use Rattle.vec3.specs.declared.turns.Direction.{Direction}
use Rattle.rings.specs.Vertices.{ring_of, bottom_pole, top_pole, cap_vertex, level_vertex, pole}
use Rattle.rings.specs.declared.axes.Axes.{Axes}
use Rattle.ring_writers.specs.Caps.{cap_rings, end_vertices}
use Rattle.ring_writers.specs.ClosedCylinder.{low_of, cylinder_ring, cylinder_rings, cylinder_vertices}

pub length-ring : (vertex : Direction → Point) (n : ℕ) → length (ring_of vertex n) ≡ n * 3
length-ring vertex n = length-blocks 3 n (λ i. coordinates (vertex (turn_of i n))) (λ i h. refl)

-- rings one after the other
pub length-rings : (vertex : ℕ → Direction → Point) (k n : ℕ)
    → length (blocks k (λ g. ring_of (vertex g) n)) ≡ k * (n * 3)
length-rings vertex k n = length-blocks (n * 3) k (λ g. ring_of (vertex g) n) (λ g h. length-ring (vertex g) n)

pub length-cap : (end : End) (a : Axes) (r : Float) (L n : ℕ) → length (cap_rings end a r L n) ≡ L * (n * 3)
length-cap end a r L n = length-rings (cap_vertex end a r L) L n

pub length-end : (end : End) (a : Axes) (r : Float) (L n : ℕ) → length (end_vertices end a r L n) ≡ 3 + L * (n * 3)
length-end Bottom a r L n = omega (
  arith,
  length-append (coordinates (bottom_pole a r)) (cap_rings Bottom a r L n),
  length-cap Bottom a r L n,
)
length-end Top a r L n = omega (
  arith,
  length-append (cap_rings Top a r L n) (coordinates (top_pole a r)),
  length-cap Top a r L n,
)

-- blocks of which the first has a list before it and the last one a list after it
module _ (f : ℕ → List Float) (first last : List Float) where
  abbrev framed : ℕ → ℕ → List Float
  framed S g = cond (eqb g 0) first [] ++ (f g ++ cond (eqb g S) last [])

  framed-within : (S k : ℕ) → k < S - 1 → framed S (k + 1) ≡ f (k + 1)
  framed-within S k h = rw (ne_eqb (k + 1) 0 (λ e. omega arith), ne_eqb (k + 1) S (λ e. omega arith))
      (append-nil (f (k + 1)))

  pub blocks-framed : (S : ℕ) → blocks (S + 1) (framed S) ≡ first ++ (blocks (S + 1) f ++ last)
  blocks-framed zero = refl
  blocks-framed (suc S) =
      let m = suc S in
      let inner = blocks (m - 1) (λ k. f (k + 1)) in
      let bottom : framed m 0 ≡ first ++ f 0 = rw (ne_eqb 0 m (λ e. omega arith))
      (ap (λ (l : List Float). first ++ l) (append-nil (f 0))) in
      let top : framed m m ≡ f m ++ last = rw (ne_eqb m 0 (λ e. omega arith), eq-eqb m m refl) in
      blocks-ends m (framed m) (omega arith)
      ∙ (λ i. bottom i ++ (blocks-cong (m - 1) (λ k. framed m (k + 1)) (λ k. f (k + 1)) (framed-within m) i ++ top i))
      ∙ append_assoc first (f 0) (inner ++ (f m ++ last))
      ∙ ap (λ (l : List Float). first ++ l) (
      ap (λ (l : List Float). f 0 ++ l) (sym (append_assoc inner (f m) last))
      ∙ sym (append_assoc (f 0) (inner ++ f m) last)
      ∙ ap (λ (l : List Float). l ++ last) (sym (blocks-ends m f (omega arith))))

-- the closed cylinder: pole, rings, pole
pub cylinder-parts : (r l : Float) (n S : ℕ) (centred : Bool) → let low = low_of centred l in
    cylinder_vertices r l n S centred ≡ coordinates (pole low)
    ++ (cylinder_rings r low l S n ++ coordinates (pole (plus low l)))
cylinder-parts r l n S centred =
    let low = low_of centred l in
    blocks-framed (cylinder_ring r low l S n) (coordinates (pole low)) (coordinates (pole (plus low l))) S

pub length-cylinder : (r l : Float) (n S : ℕ) (centred : Bool)
    → length (cylinder_vertices r l n S centred) ≡ (S + 1) * (n * 3) + 6
length-cylinder r l n S centred =
    ap length (cylinder-parts r l n S centred)
    ∙ simp length-append (omega (arith, length-rings (level_vertex r (low_of centred l) l S) (S + 1) n))
