-- The capsule of polyline3.rs is document 01's: of the closed cylinder that it begins with, only
-- the triangles are left. Assumes nothing.
use mathlib.Core.Path.{◌≡◌, refl, sym, ap, ◌∙◌}
use mathlib.Core.Bool.{true}
use mathlib.Core.List.{List, [], ◌∷◌, ◌++◌, append_assoc}
use Prim.Native.Nat.{ℕ, ◌+◌, ◌-◌, ◌*◌, ◌≤◌, ◌<◌}
use native.Mathlib.Nat.{one-mul}
use native.Mathlib.Omega.{arith}
use borrow.Author.Tests.{lt-ltb, eq-eqb}
use lib.Ieee.{Float, neg}
use lib.ListN.{length, length-append}
use Rattle.laws.proofs.Overlaps.{overwrite-all}
use Rattle.surface.specs.declared.caps.End.TheVariants.{Bottom, Top}
use Rattle.vec3.specs.Points.{coordinates, times, sum_of, difference_of, scaled}
use Rattle.vec3.specs.Turns.{turn_of}
use Rattle.vec3.specs.declared.points.Point.{Point}
use Rattle.vec3.specs.declared.turns.Direction.{Direction}
use Rattle.kinds.specs.Lists.{closed_triangles}
use Rattle.curve.specs.Segments.{vertices_in}
use Rattle.rings.specs.Vertices.{bottom_pole, top_pole, bottom_vertex, top_vertex, cap_vertex}
use Rattle.swept_bodies.specs.Polyline3 as paper
use Rattle.swept_bodies.specs.Capsule.{capsule_vertices}
use Rattle.swept_bodies.proofs.Parts.{capsule-parts}
use Rattle.del_msh.specs.Arrays.{minus, Outside, read, one}
use Rattle.del_msh.specs.DelGeoCore.{TAU, FRAC-PI-2, mul, div, cos, sin}
use Rattle.del_msh.specs.Trimesh3Primitive.{cylinder-closed-end-yup}
use Rattle.del_msh.specs.Polyline3 as rust
use Rattle.del_msh.specs.Adapted.{chunks, floats}
use Rattle.del_msh.proofs.Usize.{minus_is}
use Rattle.del_msh.proofs.Floats.{floats-append}
use Rattle.del_msh.proofs.Rings.{whole-turn, rings_points, length-rings, rings-floats, point-assigned-by-three}
use Rattle.del_msh.proofs.Rings.{last-assigned-by-three, rings-assigned, behind}
use Rattle.del_msh.proofs.ClosedCylinder.{yup-length, yup-triangles}
use Rattle.del_msh.proofs.OpenFrames.{one_less, vertex, framez-is, ex-at, ey-at}
use Rattle.del_msh.proofs.Tube.{side, side-is}

-- `FRAC_PI_2 * k / L` is turn(k, 4L)
quarter-turn : (k L : ℕ) → turn_of (1 * k) (4 * L) ≡ turn_of k (4 * L)
quarter-turn k L = ap (λ (i : ℕ). turn_of i (4 * L)) (one-mul k)

five-parts : (bottom : Point) (a b e : List Point) (top : Point)
    → floats ((((bottom ∷ []) ++ a) ++ b ++ e) ++ (top ∷ [])) ≡ coordinates bottom ++ (floats a ++ (floats b ++ (floats e ++ coordinates top)))
five-parts bottom a b e top = ap (λ (l : List Float). coordinates bottom ++ l) (
    floats-append (a ++ b ++ e) (top ∷ [])
    ∙ ap (λ (l : List Float). l ++ coordinates top) (floats-append (a ++ b) e ∙ ap (λ (l : List Float). l ++ floats e) (floats-append a b))
    ∙ append_assoc (floats a ++ floats b) (floats e) (coordinates top)
    ∙ append_assoc (floats a) (floats b) (floats e ++ coordinates top))

module _ (outside : Outside) (c : List Float) (m : ℕ) (is : vertices_in c ≡ m + 1) (h : 1 ≤ m) (r : Float) (n L : ℕ) (three : 2 < n) (steps : 3 ≤ 2 * L + m) where
  -- `ndiv_length`
  abbrev M : ℕ
  M = minus outside (length (chunks c)) 1

  segments : M ≡ m
  segments = one_less outside c m is h

  -- `ndiv_length - 1`
  abbrev K : ℕ
  K = minus outside M 1

  between : K ≡ m - 1
  between = let e = segments in minus_is outside M 1 (m - 1) (omega arith)

  -- the layers, `2 * ndiv_longtitude + ndiv_length - 2`
  abbrev S : ℕ
  S = minus outside (2 * L + M) 2

  layers : S ≡ 2 * L + m - 2
  layers = let e = segments in minus_is outside (2 * L + M) 2 (2 * L + m - 2) (omega arith)

  abbrev bottom : Point
  bottom = bottom_pole (paper.axes_of m c 0) r

  abbrev below : ℕ → Direction → Point
  below = cap_vertex Bottom (paper.axes_of m c 0) r L

  abbrev inner : ℕ → Direction → Point
  inner k = side outside c m is h r n (k + 1)

  abbrev above : ℕ → Direction → Point
  above = cap_vertex Top (paper.axes_of m c m) r L

  abbrev top : Point
  top = top_pole (paper.axes_of m c m) r

  bottom-is : difference_of (read outside (chunks c) 0) (scaled (rust.framez outside (chunks c) 0) r) ≡ bottom
  unfolding bottom_pole paper.axes_of
  bottom-is = λ j. difference_of (vertex outside c m is h 0 0 (omega arith) refl j) (scaled (framez-is outside c m is h 0 (omega arith) j) r)

  ez-last : rust.framez outside (chunks c) M ≡ paper.framez m c m
  ez-last = ap (rust.framez outside (chunks c)) segments ∙ framez-is outside c m is h m (omega arith)

  top-is : sum_of (read outside (chunks c) M) (scaled (rust.framez outside (chunks c) M) r) ≡ top
  unfolding top_pole paper.axes_of
  top-is = λ j. sum_of (vertex outside c m is h M m (omega arith) segments j) (scaled (ez-last j) r)

  abbrev ey : List Point
  ey = rust.vtx2framey outside (chunks c) (rust.vtx2framex outside (chunks c))

  abbrev ex : List Point
  ex = rust.vtx2framex outside (chunks c)

  below-is : (g i : ℕ) → g < L
      → (let t0 = div (mul FRAC-PI-2 (minus outside (minus outside L 1) g)) L in
      let theta = div (mul TAU i) n in
      let az = scaled (rust.framez outside (chunks c) 0) (times (neg r) (sin t0)) in
      let ay = scaled (read outside ey 0) (times (times r (cos t0)) (cos theta)) in
      let ax = scaled (read outside ex 0) (times (times r (cos t0)) (sin theta)) in
      sum_of (sum_of (sum_of (read outside (chunks c) 0) az) ay) ax) ≡ below g (turn_of i n)
  unfolding cos sin bottom_vertex paper.axes_of
  below-is g i l =
      let first : minus outside L 1 ≡ L - 1 = minus_is outside L 1 (L - 1) (omega arith) in
      let ring : minus outside (minus outside L 1) g ≡ L - 1 - g =
      ap (λ (k : ℕ). minus outside k g) first ∙ minus_is outside (L - 1) g (L - 1 - g) (omega arith) in
      let p = vertex outside c m is h 0 0 (omega arith) refl in
      let x = ex-at outside c m is h 0 0 (omega arith) refl in
      let y = ey-at outside c m is h 0 0 (omega arith) refl in
      let z = framez-is outside c m is h 0 (omega arith) in
      let t = ap (λ (k : ℕ). turn_of (1 * k) (4 * L)) ring ∙ quarter-turn (L - 1 - g) L in
      let d = whole-turn i n in
      λ j. sum_of
      (sum_of (sum_of (p j) (scaled (z j) (times (neg r) (t j).sin))) (scaled (y j) (times (times r (t j).cos) (d j).cos)))
      (scaled (x j) (times (times r (t j).cos) (d j).sin))

  above-is : (g i : ℕ)
      → (let t0 = div (mul FRAC-PI-2 g) L in
      let theta = div (mul TAU i) n in
      let az = scaled (rust.framez outside (chunks c) M) (times r (sin t0)) in
      let ay = scaled (read outside ey M) (times (times r (cos t0)) (cos theta)) in
      let ax = scaled (read outside ex M) (times (times r (cos t0)) (sin theta)) in
      sum_of (sum_of (sum_of (read outside (chunks c) M) az) ax) ay) ≡ above g (turn_of i n)
  unfolding cos sin top_vertex paper.axes_of
  above-is g i =
      let p = vertex outside c m is h M m (omega arith) segments in
      let x = ex-at outside c m is h M m (omega arith) segments in
      let y = ey-at outside c m is h M m (omega arith) segments in
      let z = ez-last in
      let t = quarter-turn g L in
      let d = whole-turn i n in
      λ j. sum_of
      (sum_of (sum_of (p j) (scaled (z j) (times r (t j).sin))) (scaled (x j) (times (times r (t j).cos) (d j).sin)))
      (scaled (y j) (times (times r (t j).cos) (d j).cos))

  abbrev A : List Point
  A = rings_points L below n

  abbrev B : ℕ → List Point
  B k = rings_points k inner n

  abbrev C : List Point
  C = rings_points L above n

  abbrev parts : ℕ → List Point
  parts k = (bottom ∷ []) ++ A ++ B k ++ C ++ (top ∷ [])

  points : (rust.to-trimesh3-capsule outside (chunks c) n L r).1 ≡ parts K
  unfolding rust.to-trimesh3-capsule
  points =
      let e = segments in
      let count : K * n ≡ (m - 1) * n = ap (λ (k : ℕ). k * n) between in
      let rings : S + 1 ≡ L + (m - 1) + L = ap (λ (k : ℕ). k + 1) layers ∙ omega arith in
      let asserted : minus outside (2 * L + M) 1 ≡ L + (m - 1) + L =
      minus_is outside (2 * L + M) 1 (L + (m - 1) + L) (omega arith) in
      let room = (L + (m - 1) + L) * n + 2 in
      let t₀ = (cylinder-closed-end-yup outside one one n S true).1 in
      let long : length t₀ ≡ room =
      yup-length outside one one n S true three (omega arith) ∙ ap (λ (k : ℕ). n * k + 2) rings ∙ omega arith in
      let a = length-rings L below n in
      let b = length-rings K inner n in
      let d = length-rings L above n in
      rw (lt-ltb 2 n three, eq-eqb (length t₀) (minus outside (2 * L + M) 1 * n + 2) (long ∙ sym (ap (λ (k : ℕ). k * n + 2) asserted))) (
      behind room (1 + (L + (m - 1) + L) * n) ((bottom ∷ []) ++ A ++ B K ++ C) (top ∷ []) t₀ long
      (last-assigned-by-three outside room (1 + (L + (m - 1) + L) * n) _ (omega arith) top-is)
      (behind room (1 + (L + (m - 1)) * n) ((bottom ∷ []) ++ A ++ B K) C t₀ long
      (rings-assigned room L n (1 + (L + (m - 1)) * n) above _ _ (omega arith) (λ g i hg hi l t.
      let row : minus outside (g + M + L) 1 ≡ L + (m - 1) + g =
      minus_is outside (g + M + L) 1 (L + (m - 1) + g) (omega arith) in
      point-assigned-by-three room (1 + minus outside (g + M + L) 1 * n + i) (1 + (L + (m - 1)) * n + g * n + i) t l
      (ap (λ (k : ℕ). 1 + k * n + i) row ∙ omega arith) (above-is g i)))
      (behind room (1 + L * n) ((bottom ∷ []) ++ A) (B K) t₀ long
      (rings-assigned room K n (1 + L * n) inner _ _ (omega arith) (λ g i hg hi l t.
      point-assigned-by-three room (1 + (g + L) * n + i) (1 + L * n + g * n + i) t l (omega arith)
      (side-is outside c m is h r n (g + 1) (g + 1) i (omega (arith, between)) refl)))
      (behind room 1 (bottom ∷ []) A t₀ long
      (rings-assigned room L n 1 below _ _ (omega arith) (λ g i hg hi l t.
      point-assigned-by-three room (1 + g * n + i) (1 + g * n + i) t l refl (below-is g i hg)))
      (point-assigned-by-three room 0 0 t₀ (omega arith) refl bottom-is long)
      refl)
      (omega arith))
      (omega (arith, length-append A (B K))))
      (omega (arith, length-append A (B K), length-append (A ++ B K) C))
      ∙ overwrite-all (parts K) t₀ (omega (arith, length-append A (B K), length-append (A ++ B K) C, length-append (A ++ B K ++ C) (top ∷ []))))

  pub capsule-floats : floats (rust.to-trimesh3-capsule outside (chunks c) n L r).1 ≡ capsule_vertices n L r m c
  capsule-floats =
      let a = rings-floats L below n in
      let b = rings-floats (m - 1) inner n in
      let d = rings-floats L above n in
      ap floats points
      ∙ ap (λ (k : ℕ). floats (parts k)) between
      ∙ five-parts bottom A (B (m - 1)) C top
      ∙ (λ j. coordinates bottom ++ (a j ++ (b j ++ (d j ++ coordinates top))))
      ∙ sym (capsule-parts n L r m c h)

  pub capsule-triangles : (rust.to-trimesh3-capsule outside (chunks c) n L r).0 ≡ closed_triangles n (2 * L + m - 2)
  unfolding rust.to-trimesh3-capsule
  capsule-triangles =
      rw (lt-ltb 2 n three) (yup-triangles outside one one n S true three (omega (arith, layers)) ∙ ap (closed_triangles n) layers)
