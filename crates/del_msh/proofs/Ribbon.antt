-- The ribbon of polyline3.rs is document 01's. Assumes nothing.
use mathlib.Core.Path.{◌≡◌, refl, ap, ◌∙◌}
use mathlib.Core.List.{List, [], ◌∷◌}
use Prim.Native.Nat.{ℕ, ◌+◌, ◌*◌, ◌≤◌}
use native.Mathlib.Omega.{arith}
use lib.Ieee.{Float}
use lib.ListN.{length, length-replicate}
use Rattle.laws.proofs.Overlaps.{overwrite-all}
use Rattle.laws.specs.Blocks.{blocks}
use Rattle.laws.proofs.Blocks.{length-blocks}
use Rattle.surface.specs.Triangles.{triangle}
use Rattle.vec3.specs.Points.{sum_of, scaled}
use Rattle.vec3.specs.declared.points.Point.{Point}
use Rattle.kinds.specs.Lists.{ribbon_quad, ribbon_triangles}
use Rattle.curve.specs.Segments.{vertices_in, vertex_of}
use Rattle.swept_bodies.specs.Polyline3 as paper
use Rattle.del_msh.specs.Vectors.{vec}
use Rattle.del_msh.specs.Arrays.{Outside, zeros, zero_triangle}
use Rattle.del_msh.specs.Polyline3 as rust
use Rattle.del_msh.specs.Adapted.{chunks, floats}
use Rattle.del_msh.proofs.Loops.{two-assigned, fills}
use Rattle.del_msh.proofs.Floats.{floats-blocks}
use Rattle.del_msh.proofs.OpenFrames.{sized, one_less, vertex, ex-at}

module _ (outside : Outside) (c : List Float) (m : ℕ) (is : vertices_in c ≡ m + 1) (h : 1 ≤ m) (width : Float) where
  abbrev pair : ℕ → List Point
  pair g = vertex_of c g ∷ sum_of (vertex_of c g) (scaled (paper.vtx2framex m c g).ex width) ∷ []

  ribbon-points : (rust.to-trimesh3-ribbon outside (chunks c) (rust.vtx2framex outside (chunks c)) width).1
      ≡ blocks (m + 1) pair
  unfolding rust.to-trimesh3-ribbon
  ribbon-points =
      let room = (m + 1) * 2 in
      let t₀ = vec zeros room in
      let long : length t₀ ≡ room = length-replicate room zeros in
      rw (sized outside c m is h) (fills (m + 1) 0 2 pair _ t₀ (λ g. refl) (λ g l t as_long.
      two-assigned room (g * 2) (0 + g * 2) t (omega arith) (omega arith) (vertex outside c m is h g g l refl)
      (λ j. sum_of (vertex outside c m is h g g l refl j) (scaled (ex-at outside c m is h g g l refl j) width))
      (as_long ∙ long))
      ∙ overwrite-all (blocks (m + 1) pair) t₀ (omega (arith, length-blocks 2 (m + 1) pair (λ g _. refl))))

  pub ribbon-floats : floats (rust.to-trimesh3-ribbon outside (chunks c) (rust.vtx2framex outside (chunks c)) width).1 ≡ paper.ribbon_vertices width m c
  ribbon-floats = ap floats ribbon-points ∙ floats-blocks (m + 1) pair

  pub ribbon-triangles : (rust.to-trimesh3-ribbon outside (chunks c) (rust.vtx2framex outside (chunks c)) width).0 ≡ ribbon_triangles m
  unfolding rust.to-trimesh3-ribbon
  ribbon-triangles =
      let room = m * 2 in
      let t₀ = vec zero_triangle room in
      let long : length t₀ ≡ room = length-replicate room zero_triangle in
      rw (one_less outside c m is h) (fills m 0 2 ribbon_quad _ t₀ (λ g. refl) (λ g l t as_long.
      let same : g * 2 ≡ 2 * g = omega arith in
      two-assigned room (g * 2) (0 + g * 2) t (omega arith) (omega arith)
      (λ j. triangle (same j) (same j + 1) (same j + 2)) (λ j. triangle (same j + 1) (same j + 3) (same j + 2))
      (as_long ∙ long))
      ∙ overwrite-all (ribbon_triangles m) t₀ (omega (arith, length-blocks 2 m ribbon_quad (λ g _. refl))))
