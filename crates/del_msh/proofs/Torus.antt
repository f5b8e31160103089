-- The frames of polyloop3.rs are document 01's, and so is the torus over any list of frames.
-- Assumes nothing.
use mathlib.Core.Path.{◌≡◌, refl, sym, ap, ◌∙◌}
use mathlib.Core.List.{List, [], ◌∷◌, ◌++◌}
use Prim.Native.Nat.{ℕ, ◌+◌, ◌-◌, ◌*◌, ◌%◌, ◌≤◌, ◌<◌}
use native.Mathlib.Nat.{mod-eq_of_lt, mod-lt}
use native.Mathlib.Omega.{arith}
use lib.Ieee.{Float}
use lib.ListN.{length, length-replicate}
use Rattle.laws.proofs.Overlaps.{overwrite-all}
use Rattle.laws.specs.Blocks.{blocks}
use Rattle.surface.specs.declared.grid.Chain.TheVariants.{Closed}
use Rattle.vec3.specs.Points.{sum_of, difference_of, scaled, cross_of, normalised}
use Rattle.vec3.specs.Frames.{first_frame, transported}
use Rattle.vec3.specs.declared.points.Point.{Point}
use Rattle.vec3.specs.declared.turns.Direction.{Direction}
use Rattle.vec3.specs.declared.frames.Frame.{Frame}
use Rattle.kinds.specs.Lists.{torus_quad, torus_triangles}
use Rattle.curve.specs.Segments.{vertices_in, vertex_of, segment_of, segment_direction}
use Rattle.curve.specs.Framex.{frame_of}
use Rattle.rings.specs.Axes.{axes_at}
use Rattle.rings.specs.Vertices.{torus_vertex}
use Rattle.swept_bodies.specs.Polyloop3 as paper
use Rattle.del_msh.specs.Vectors.{vec, change}
use Rattle.del_msh.specs.Arrays.{minus, remainder, Outside, read, zeros}
use Rattle.del_msh.specs.DelGeoCore.{cos, sin}
use Rattle.del_msh.specs.Polyloop3 as rust
use Rattle.del_msh.specs.Adapted.{chunks, floats}
use Rattle.del_msh.proofs.Usize.{minus_is, remainder_is}
use Rattle.del_msh.proofs.Loops.{pushes}
use Rattle.del_msh.proofs.Rings.{whole-turn, rings_points, rings-floats, rings-pushed}
use Rattle.del_msh.proofs.Topology.{quad-pushed}
use Rattle.del_msh.proofs.Curve.{length-chunks, vertex-at}
use Rattle.del_msh.proofs.Frames.{points_of, length-points, read-points_of, frames-carried}

module _ (outside : Outside) (c : List Float) (N : ℕ) (is : vertices_in c ≡ N) (h : 2 ≤ N) where
  pub sized : length (chunks c) ≡ N
  sized = length-chunks c ∙ is

  pub vertex : (k k' : ℕ) → k' < N → k ≡ k' → read outside (chunks c) k ≡ vertex_of c k'
  vertex k k' l same = vertex-at outside c k k' (omega arith) same

  -- the vertex after vertex k
  pub next : (k : ℕ) → read outside (chunks c) (remainder outside (k + 1) N) ≡ vertex_of c ((k + 1) % N)
  next k = vertex (remainder outside (k + 1) N) ((k + 1) % N) (mod-lt (k + 1) (omega arith)) (remainder_is outside (k + 1) N (omega arith))

  abbrev ex : ℕ → Point
  ex g = (paper.vtx2framex N c g).ex

  framex-is : rust.vtx2framex outside (chunks c) ≡ points_of N ex
  unfolding rust.vtx2framex paper.vtx2framex frame_of segment_direction segment_of
  framex-is =
      let t₀ = vec zeros N in
      let wrapped : 1 ≡ 1 % N = sym (mod-eq_of_lt h) in
      rw sized (frames-carried outside Closed N c N N _ _ (omega arith) (omega arith)
      (λ j. (first_frame (difference_of (vertex 1 (1 % N) (omega arith) wrapped j) (vertex 0 0 (omega arith) refl j))).ex)
      (λ i l u t j.
      let e : i - 1 + 1 ≡ i = omega arith in
      let before : minus outside i 1 ≡ i - 1 = minus_is outside i 1 (i - 1) (omega arith) in
      let here : i ≡ (i - 1 + 1) % N = sym (ap (λ (k : ℕ). k % N) e ∙ mod-eq_of_lt u) in
      change t i (λ old. (transported (record { ex = read outside t (before j) })
      (normalised (difference_of (vertex i ((i - 1 + 1) % N) (omega arith) here j) (vertex (minus outside i 1) (i - 1) (omega arith) before j)))
      (normalised (difference_of (next i j) (vertex i i u refl j)))).ex))
      ∙ overwrite-all (points_of N ex) t₀ (length-points N ex ∙ sym (length-replicate N zeros)))

  pub ex-at : (g : ℕ) → g < N → read outside (rust.vtx2framex outside (chunks c)) g ≡ ex g
  ex-at g l = (λ j. read outside (framex-is j) g) ∙ read-points_of outside N ex g l

  -- the torus over a list of frames, of which `frame g` is the one at vertex g
  module _ (bins : List Point) (frame : ℕ → Frame) (frame_at : (g : ℕ) → g < N → read outside bins g ≡ (frame g).ex)
      (r : Float) (n : ℕ) where
    abbrev round : ℕ → Direction → Point
    round g = torus_vertex (paper.axes_of N c (frame g) g) r

    torus-points : (rust.to-trimesh3-torus outside (chunks c) bins r n).1 ≡ rings_points N round n
    unfolding rust.to-trimesh3-torus cos sin torus_vertex paper.axes_of axes_at segment_direction segment_of
    torus-points =
        rw sized (rings-pushed N n round _ [] (λ g i hg hi t.
        let p = vertex g g hg refl in
        let x = frame_at g hg in
        let d = whole-turn i n in
        let y : cross_of (normalised (difference_of (read outside (chunks c) (remainder outside (g + 1) N)) (read outside (chunks c) g))) (read outside bins g)
        ≡ (paper.axes_of N c (frame g) g).ey = λ j. cross_of (normalised (difference_of (next g j) (p j))) (x j) in
        λ j. t ++ (sum_of (p j) (scaled (sum_of (scaled (x j) (d j).cos) (scaled (y j) (d j).sin)) r) ∷ [])))

    pub torus-over : floats (rust.to-trimesh3-torus outside (chunks c) bins r n).1
        ≡ blocks N (λ g. paper.torus_ring n r N c (frame g) g)
    torus-over = ap floats torus-points ∙ rings-floats N round n

    pub torus-triangles : (rust.to-trimesh3-torus outside (chunks c) bins r n).0 ≡ torus_triangles n N
    unfolding rust.to-trimesh3-torus
    torus-triangles =
        rw sized (pushes N (λ g. blocks n (torus_quad n N g)) _ [] (λ g hg t. pushes n (torus_quad n N g) _ t (λ i hi t'.
        let ring = remainder_is outside (g + 1) N (omega arith) in
        let after = remainder_is outside (i + 1) n (omega arith) in
        quad-pushed t' refl (λ j. g * n + after j) (λ j. ring j * n + i) (λ j. ring j * n + after j) (λ j. ring j * n + i) (λ j. g * n + after j))))
