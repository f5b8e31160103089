-- The smoothed frames of polyloop3.rs are document 02's, whatever k stands for the arctangent.
-- Assumes nothing.
use mathlib.Core.Path.{◌≡◌, refl, sym, ap, ◌∙◌}
use mathlib.Core.List.{List, [], ◌∷◌}
use Prim.Native.Nat.{ℕ, ◌+◌, ◌-◌, ◌*◌, ◌%◌, ◌≤◌, ◌<◌}
use native.Mathlib.Nat.{mod-eq_of_lt, mod_self, mod-lt}
use native.Mathlib.Omega.{arith}
use lib.Ieee.{Float}
use lib.ListN.{length, length-replicate}
use Rattle.laws.proofs.Overlaps.{overwrite-all}
use Rattle.surface.specs.declared.grid.Chain.TheVariants.{Closed}
use Rattle.vec3.specs.Points.{sum_of, difference_of, scaled, dot_of, cross_of, normalised}
use Rattle.vec3.specs.Frames.{transported}
use Rattle.vec3.specs.declared.points.Point.{Point}
use Rattle.curve.specs.Segments.{vertices_in, vertex_of, segment_of, segment_direction}
use Rattle.swept_bodies.specs.Polyloop3.{vtx2framex}
use Rattle.twists.specs.Twists.{signed, share_of, twisted_frame}
use Rattle.twists.specs.declared.twist.Twist.{Twist}
use Rattle.seamless_torus.specs.Polyloop3.{across_start, ends_of, smooth_frame}
use Rattle.del_msh.specs.Vectors.{vec}
use Rattle.del_msh.specs.Arrays.{minus, Outside, read, zeros}
use Rattle.del_msh.specs.DelGeoCore.{Angle, cos, sin, mul, div}
use Rattle.del_msh.specs.Polyloop3 as rust
use Rattle.del_msh.specs.Adapted.{chunks, turn_by}
use Rattle.del_msh.proofs.Usize.{minus_is}
use Rattle.del_msh.proofs.Loops.{assigned, fills}
use Rattle.del_msh.proofs.Frames.{points_of, length-points, read-points_of}
use Rattle.del_msh.proofs.Torus.{sized, vertex, next, ex-at}

module _ (outside : Outside) (arctangent : Float → Float → Twist) (c : List Float) (N : ℕ)
    (is : vertices_in c ≡ N) (h : 2 ≤ N) where
  -- the Rust's names: the points and frames that it reads, `v01`, `vn0` and `x1a`
  abbrev point : ℕ → Point
  point i = read outside (chunks c) i

  abbrev bin : ℕ → Point
  bin i = read outside (rust.vtx2framex outside (chunks c)) i

  abbrev last : ℕ
  last = minus outside N 1

  abbrev v01 : Point
  v01 = normalised (difference_of (point 1) (point 0))

  abbrev vn0 : Point
  vn0 = normalised (difference_of (point 0) (point last))

  abbrev x1a : Point
  x1a = (transported (record { ex = bin last }) vn0 v01).ex

  vertex-is : (k k' : ℕ) → k' < N → k ≡ k' → point k ≡ vertex_of c k'
  vertex-is = vertex outside c N is h

  last-is : last ≡ N - 1
  last-is = minus_is outside N 1 (N - 1) (omega arith)

  -- the first direction and the closing one
  v01-is : v01 ≡ segment_direction Closed N c 0
  unfolding segment_direction segment_of
  v01-is =
      let one = vertex-is 1 (1 % N) (mod-lt 1 (omega arith)) (sym (mod-eq_of_lt h)) in
      λ j. normalised (difference_of (one j) (vertex-is 0 0 (omega arith) refl j))

  vn0-is : vn0 ≡ segment_direction Closed N c (N - 1)
  unfolding segment_direction segment_of
  vn0-is =
      let e : N - 1 + 1 ≡ N = omega arith in
      let wraps : 0 ≡ (N - 1 + 1) % N = sym (ap (λ (m : ℕ). m % N) e ∙ mod_self N) in
      let start = vertex-is 0 ((N - 1 + 1) % N) (mod-lt (N - 1 + 1) (omega arith)) wraps in
      λ j. normalised (difference_of (start j) (vertex-is last (N - 1) (omega arith) last-is j))

  -- "The last frame is transported across vertex 0. Its dots .. are c0 and s0."
  x0-is : bin 0 ≡ (vtx2framex N c 0).ex
  x0-is = ex-at outside c N is h 0 (omega arith)

  x1a-is : x1a ≡ (across_start N c).ex
  unfolding across_start
  x1a-is =
      let xn = ap bin last-is ∙ ex-at outside c N is h (N - 1) (omega arith) in
      λ j. (transported (record { ex = xn j }) (vn0-is j) (v01-is j)).ex

  ends-are : record { c0 = dot_of x1a (bin 0); s0 = dot_of x1a (cross_of v01 (bin 0)) } ≡ ends_of N c
  unfolding ends_of
  ends-are =
      λ j. record { c0 = dot_of (x1a-is j) (x0-is j); s0 = dot_of (x1a-is j) (cross_of (v01-is j) (x0-is j)) }

  -- the k that stands for the arctangent of s0 and c0, and frame g turned by its share
  abbrev k : Twist
  k = arctangent (ends_of N c).s0 (ends_of N c).c0

  abbrev smooth : ℕ → Point
  smooth g = (smooth_frame k N c g).ex

  abbrev angle : Float → Float → Angle
  angle s0 c0 = turn_by (arctangent s0 c0)

  smooth-is : rust.smooth-frame outside angle (chunks c) ≡ points_of N smooth
  unfolding rust.smooth-frame rust.match-frames-of-two-ends cos sin smooth_frame twisted_frame share_of signed segment_direction segment_of
  smooth-is =
      let t₀ = vec zeros N in
      let long : length t₀ ≡ N = length-replicate N zeros in
      rw (sized outside c N is h) (fills N 0 1 (λ g. smooth g ∷ []) _ t₀ (λ g. refl) (λ i u t same.
      assigned N i (0 + i * 1) t (omega arith) (omega arith)
      (λ j.
      let x = ex-at outside c N is h i u j in
      let along = normalised (difference_of (next outside c N is h i j) (vertex-is i i u refl j)) in
      let theta = div (angle (ends-are j).s0 (ends-are j).c0) N in
      sum_of (scaled x (sin (mul theta i))) (scaled (cross_of along x) (cos (mul theta i))))
      (same ∙ long))
      ∙ overwrite-all (points_of N smooth) t₀ (length-points N smooth ∙ sym long))

  pub smooth-at : (g : ℕ) → g < N → read outside (rust.smooth-frame outside angle (chunks c)) g ≡ smooth g
  smooth-at g l = (λ j. read outside (smooth-is j) g) ∙ read-points_of outside N smooth g l
