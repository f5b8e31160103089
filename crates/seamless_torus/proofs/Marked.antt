-- With a NaN for a radius the vertices are not all finite: already the first coordinate of the
-- first vertex is a sum with a product by the radius. Assumes nothing.
use Rattle.std.proofs.Common.{◌≡◌, refl, ap, ◌∙◌, false, List, ℕ, ◌*◌, ◌≤◌, Float, length, get_or, arith}
use Rattle.std.proofs.Math.Nat.{mul-le-mul}
use Rattle.std.specs.Float.{binary32, nan}
use Rattle.std.specs.Float.Ieee.Scale.{finite}
use Rattle.laws.proofs.Every.{every-fails}
use Rattle.laws.proofs.Blocks.{get_or-blocks}
use Rattle.float32.specs.Scan.{all_finite}
use Rattle.float32.proofs.Nans.{mul-nan, add-nan}
use Rattle.vec3.specs.Points.{plus, sum_of, scaled}
use Rattle.vec3.specs.Turns.{turn_of}
use Rattle.vec3.specs.declared.turns.Direction.{Direction}
use Rattle.rings.specs.Vertices.{vertex_on, torus_vertex}
use Rattle.rings.specs.declared.axes.Axes.{Axes}
use Rattle.ring_writers.proofs.Lengths.{length-ring}
use Rattle.swept_bodies.specs.Polyloop3.{axes_of}
use Rattle.twists.specs.declared.twist.Twist.{Twist}
use Rattle.seamless_torus.specs.Polyloop3.{smooth_frame, seamless_part, seamless_vertices}
use Rattle.seamless_torus.proofs.Lengths.{length-seamless}

-- a vertex's first coordinate
coordinate : (a : Axes) (d : Direction) → (torus_vertex a nan d).x ≡ nan
unfolding torus_vertex sum_of scaled
coordinate a d = ap (plus a.origin.x) (mul-nan binary32 _) ∙ add-nan binary32 a.origin.x

module _ (k : Twist) (n N : ℕ) (c : List Float) where
  abbrev axes : ℕ → Axes
  axes g = axes_of N c (smooth_frame k N c g) g

  -- the first float
  first-float : 1 ≤ N → 1 ≤ n → get_or (seamless_vertices k n nan N c) 0 nan ≡ nan
  first-float h l =
      get_or-blocks (n * 3) N (seamless_part k n nan N c) 0 0 0 nan (λ g. length-ring (torus_vertex (axes g) nan) n) h
      (omega arith) (omega arith)
      ∙ get_or-blocks 3 n (vertex_on (torus_vertex (axes 0) nan) n) 0 0 0 nan (λ i. refl) l (omega arith) (omega arith)
      ∙ coordinate (axes 0) (turn_of 0 n)

  pub marked-not-finite : 1 ≤ N → 1 ≤ n → all_finite (seamless_vertices k n nan N c) ≡ false
  unfolding all_finite
  marked-not-finite h l =
      let vertices = seamless_vertices k n nan N c in
      every-fails (length vertices) (λ i. finite (get_or vertices i nan)) 0
      (omega (arith, length-seamless k n nan N c, mul-le-mul h l))
      (ap finite (first-float h l))
