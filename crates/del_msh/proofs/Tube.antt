-- The tube of polyline3.rs is document 01's. Assumes nothing.
use mathlib.Core.Path.{◌≡◌, refl, ap, ◌∙◌}
use mathlib.Core.List.{List}
use Prim.Native.Nat.{ℕ, ◌+◌, ◌*◌, ◌≤◌, ◌<◌}
use native.Mathlib.Nat.{mul-div_cancel}
use native.Mathlib.Omega.{arith}
use lib.Ieee.{Float}
use lib.ListN.{length, length-replicate}
use Rattle.laws.proofs.Overlaps.{overwrite-all}
use Rattle.vec3.specs.Points.{times, sum_of, scaled}
use Rattle.vec3.specs.Turns.{turn_of}
use Rattle.vec3.specs.declared.points.Point.{Point}
use Rattle.vec3.specs.declared.turns.Direction.{Direction}
use Rattle.curve.specs.Segments.{vertices_in}
use Rattle.rings.specs.Vertices.{tube_vertex}
use Rattle.swept_bodies.specs.Polyline3 as paper
use Rattle.del_msh.specs.Vectors.{vec}
use Rattle.del_msh.specs.Arrays.{Outside, read, quotient, zeros}
use Rattle.del_msh.specs.DelGeoCore.{TAU, mul, div, cos, sin}
use Rattle.del_msh.specs.Polyline3 as rust
use Rattle.del_msh.specs.Adapted.{chunks, floats}
use Rattle.del_msh.proofs.Usize.{quotient_is}
use Rattle.del_msh.proofs.Loops.{assigned}
use Rattle.del_msh.proofs.Rings.{whole-turn, rings_points, length-rings, rings-floats, rings-assigned}
use Rattle.del_msh.proofs.OpenFrames.{sized, vertex, ex-at, ey-at}

module _ (outside : Outside) (c : List Float) (m : ℕ) (is : vertices_in c ≡ m + 1) (h : 1 ≤ m) (r : Float) (n : ℕ) where
  abbrev pub side : ℕ → Direction → Point
  side g = tube_vertex (paper.axes_of m c g) r

  -- `q` at vertex k of the curve, under another name of k: also that of a capsule's side
  pub side-is : (k g i : ℕ) → g < m + 1 → k ≡ g
      → sum_of (sum_of (read outside (chunks c) k) (scaled (read outside (rust.vtx2framey outside (chunks c) (rust.vtx2framex outside (chunks c))) k) (times r (cos (div (mul TAU i) n)))))
      (scaled (read outside (rust.vtx2framex outside (chunks c)) k) (times r (sin (div (mul TAU i) n))))
      ≡ side g (turn_of i n)
  unfolding cos sin tube_vertex paper.axes_of
  side-is k g i l same =
      let turn = whole-turn i n in
      λ j. sum_of
      (sum_of (vertex outside c m is h k g l same j) (scaled (ey-at outside c m is h k g l same j) (times r (turn j).cos)))
      (scaled (ex-at outside c m is h k g l same j) (times r (turn j).sin))

  tube-points : rust.set-vtx2xyz-for-generalized-cylinder-open-end outside (vec zeros (n * (m + 1))) (chunks c) r
      ≡ rings_points (m + 1) side n
  unfolding rust.set-vtx2xyz-for-generalized-cylinder-open-end
  tube-points =
      let room = n * (m + 1) in
      let t₀ = vec zeros room in
      let long : length t₀ ≡ room = length-replicate room zeros in
      let round : quotient outside (n * (m + 1)) (m + 1) ≡ n =
      quotient_is outside (n * (m + 1)) (m + 1) (omega arith) ∙ mul-div_cancel n (omega arith) in
      rw (long, sized outside c m is h, round) (rings-assigned room (m + 1) n 0 side _ t₀ (omega arith)
      (λ g i hg hi l t. assigned room (g * n + i) (0 + g * n + i) t l (omega arith) (side-is g g i hg refl))
      long
      ∙ overwrite-all (rings_points (m + 1) side n) t₀ (omega (arith, length-rings (m + 1) side n)))

  pub tube-floats : floats (rust.set-vtx2xyz-for-generalized-cylinder-open-end outside (vec zeros (n * (m + 1))) (chunks c) r) ≡ paper.tube_vertices n r m c
  tube-floats = ap floats tube-points ∙ rings-floats (m + 1) side n
