-- The frames of polyline3.rs are document 01's. Assumes nothing.
use mathlib.Core.Path.{◌≡◌, refl, sym, ap, ◌∙◌}
use mathlib.Core.Bool.{Bool, cond}
use mathlib.Core.Logic.{⊎_elim}
use mathlib.Core.List.{List, [], ◌∷◌}
use Prim.Native.Nat.{ℕ, zero, suc, ◌+◌, ◌-◌, ◌*◌, ◌≤◌, ◌<◌}
use native.Mathlib.Nat.{eq-or-lt_of_le}
use native.Mathlib.Numerals.{add-one}
use native.Mathlib.Omega.{arith}
use borrow.Author.Tests.{eq-eqb, ne_eqb, lt-ltb}
use lib.Ieee.{Float}
use lib.ListN.{length, length-replicate}
use Rattle.laws.specs.Overwrite.{overwrite}
use Rattle.laws.proofs.Overlaps.{overwrite-all}
use Rattle.laws.proofs.Blocks.{blocks-cong}
use Rattle.surface.specs.declared.grid.Chain.TheVariants.{Open}
use Rattle.vec3.specs.Points.{sum_of, difference_of, cross_of, normalised}
use Rattle.vec3.specs.Frames.{first_frame, transported}
use Rattle.vec3.specs.declared.points.Point.{Point}
use Rattle.curve.specs.Segments.{vertices_in, vertex_of, segment_of, segment_direction}
use Rattle.curve.specs.Framex.{frame_of}
use Rattle.swept_bodies.specs.Polyline3 as paper
use Rattle.del_msh.specs.Vectors.{vec, change}
use Rattle.del_msh.specs.Arrays.{minus, Outside, read, zeros}
use Rattle.del_msh.specs.Polyline3 as rust
use Rattle.del_msh.specs.Adapted.{chunks}
use Rattle.del_msh.proofs.Usize.{minus_is}
use Rattle.del_msh.proofs.Loops.{assigned, fills}
use Rattle.del_msh.proofs.Rings.{behind}
use Rattle.del_msh.proofs.Curve.{length-chunks, vertex-at}
use Rattle.del_msh.proofs.Frames.{points_of, length-points, read-points_of, written_at, frame, frames-carried}

-- a curve of m segments, at least one
module _ (outside : Outside) (c : List Float) (m : ℕ) (is : vertices_in c ≡ m + 1) (h : 1 ≤ m) where
  abbrev pub curve : List Point
  curve = chunks c

  pub sized : length curve ≡ m + 1
  sized = length-chunks c ∙ is

  -- `num_vtx - 1` and `num_vtx - 2`
  pub one_less : minus outside (length curve) 1 ≡ m
  one_less = minus_is outside (length curve) 1 m (omega (arith, sized))

  two-less : minus outside (length curve) 2 ≡ m - 1
  two-less = minus_is outside (length curve) 2 (m - 1) (omega (arith, sized))

  pub vertex : (k k' : ℕ) → k' < m + 1 → k ≡ k' → read outside curve k ≡ vertex_of c k'
  vertex k k' l same = vertex-at outside c k k' (omega arith) same

  pub framez-is : (g : ℕ) → g < m + 1 → rust.framez outside curve g ≡ paper.framez m c g
  unfolding rust.framez paper.framez segment_direction segment_of
  framez-is zero l =
      rw (lt-ltb 0 (length curve) (omega (arith, sized)))
      (λ j. normalised (difference_of (vertex 1 1 (omega arith) refl j) (vertex 0 0 (omega arith) refl j)))
  framez-is (suc g) l =
      let long = sized in
      let back : m ≡ m - 1 + 1 = omega arith in
      let here : minus outside (suc g) 1 ≡ suc g - 1 = minus_is outside (suc g) 1 (suc g - 1) (omega arith) in
      let within = lt-ltb (suc g) (length curve) (omega arith) in
      let not_first = ne_eqb (suc g) 0 (λ e. omega arith) in
      ⊎_elim
      (λ (last : suc g ≡ m).
      rw (within, not_first, eq-eqb (suc g) (minus outside (length curve) 1) (last ∙ sym one_less), eq-eqb (suc g) m last)
      (λ j. normalised (difference_of
      (vertex (minus outside (length curve) 1) (m - 1 + 1) (omega arith) (one_less ∙ back) j)
      (vertex (minus outside (length curve) 2) (m - 1) (omega arith) two-less j))))
      (λ (inner : suc g < m).
      rw (within, not_first, ne_eqb (suc g) (minus outside (length curve) 1) (λ e. omega (arith, e ∙ one_less)), ne_eqb (suc g) m (λ e. omega arith))
      (λ j. normalised (sum_of
      (normalised (difference_of (vertex (suc g) (suc g - 1 + 1) (omega arith) (omega arith) j) (vertex (minus outside (suc g) 1) (suc g - 1) (omega arith) here j)))
      (normalised (difference_of (vertex (suc g + 1) (suc g + 1) (omega arith) refl j) (vertex (suc g) (suc g) l refl j))))))
      (eq-or-lt_of_le (omega arith))

  -- frames: of each segment, and the last one copied
  abbrev pub ex : ℕ → Point
  ex g = (paper.vtx2framex m c g).ex

  ex-within : (g : ℕ) → g < m → frame outside Open m c g ≡ ex g
  unfolding paper.vtx2framex
  ex-within g l = sym (ap (λ (b : Bool). (cond b (frame_of Open m c (m - 1)) (frame_of Open m c g)).ex) (ne_eqb g m (λ e. omega arith)))

  ex-last : frame outside Open m c (m - 1) ≡ ex m
  unfolding paper.vtx2framex
  ex-last = sym (ap (λ (b : Bool). (cond b (frame_of Open m c (m - 1)) (frame_of Open m c m)).ex) (eq-eqb m m refl))

  -- `vtx2bin[num_vtx - 1] = vtx2bin[num_vtx - 2]`, the second place under another name
  last-copied : (q : ℕ) → q ≡ m - 1 → (t : List Point)
      → t ≡ overwrite 0 (points_of m (frame outside Open m c)) (vec zeros (m + 1))
      → change t m (λ old. read outside t q) ≡ points_of (m + 1) ex
  last-copied q same t is =
      let room = m + 1 in
      let t₀ = vec zeros room in
      let long : length t₀ ≡ room = length-replicate room zeros in
      behind room m (points_of m ex) (ex m ∷ []) t₀ long
      (assigned room m m t (omega arith) refl (ap (read outside t) same ∙ written_at outside m (frame outside Open m c) t₀ (m - 1) (omega arith) (omega arith) is ∙ ex-last))
      (is ∙ ap (λ (l : List Point). overwrite 0 l t₀) (blocks-cong m (λ g. frame outside Open m c g ∷ []) (λ g. ex g ∷ [])
      (λ g l. ap (λ (p : Point). p ∷ []) (ex-within g l))))
      (length-points m ex)
      ∙ ap (λ (k : ℕ). overwrite 0 (points_of k ex) t₀) (sym (add-one m))
      ∙ overwrite-all (points_of (m + 1) ex) t₀ (omega (arith, length-points (m + 1) ex))

  framex-is : rust.vtx2framex outside curve ≡ points_of (m + 1) ex
  unfolding rust.vtx2framex frame_of segment_direction segment_of
  framex-is =
      let last : minus outside (m + 1) 1 ≡ m = minus_is outside (m + 1) 1 m refl in
      rw (sized, last) (last-copied (minus outside (m + 1) 2) (minus_is outside (m + 1) 2 (m - 1) (omega arith)) _
      (frames-carried outside Open m c (m + 1) m _ _ h (omega arith)
      (λ j. (first_frame (difference_of (vertex 1 1 (omega arith) refl j) (vertex 0 0 (omega arith) refl j))).ex)
      (λ i l u t j.
      let before : minus outside i 1 ≡ i - 1 = minus_is outside i 1 (i - 1) (omega arith) in
      change t i (λ old. (transported (record { ex = read outside t (before j) })
      (normalised (difference_of (vertex i (i - 1 + 1) (omega arith) (omega arith) j) (vertex (minus outside i 1) (i - 1) (omega arith) before j)))
      (normalised (difference_of (vertex (i + 1) (i + 1) (omega arith) refl j) (vertex i i (omega arith) refl j)))).ex))))

  pub ex-at : (k g : ℕ) → g < m + 1 → k ≡ g → read outside (rust.vtx2framex outside curve) k ≡ ex g
  ex-at k g l same = (λ j. read outside (framex-is j) (same j)) ∙ read-points_of outside (m + 1) ex g l

  framey-is : rust.vtx2framey outside curve (rust.vtx2framex outside curve) ≡ points_of (m + 1) (paper.vtx2framey m c)
  unfolding rust.vtx2framey paper.vtx2framey
  framey-is =
      let room = m + 1 in
      let t₀ = vec zeros room in
      let long : length t₀ ≡ room = length-replicate room zeros in
      let as_many : length (rust.vtx2framex outside curve) ≡ room = ap length framex-is ∙ length-points room ex in
      rw (sized, eq-eqb (length (rust.vtx2framex outside curve)) room as_many) (fills room 0 1 (λ g. paper.vtx2framey m c g ∷ []) _ t₀ (λ g. refl) (λ g l t as_long.
      assigned room g (0 + g * 1) t (omega arith) (omega arith) (λ j. cross_of (framez-is g l j) (ex-at g g l refl j)) (as_long ∙ long))
      ∙ overwrite-all (points_of room (paper.vtx2framey m c)) t₀ (omega (arith, length-points room (paper.vtx2framey m c))))

  pub ey-at : (k g : ℕ) → g < m + 1 → k ≡ g
      → read outside (rust.vtx2framey outside curve (rust.vtx2framex outside curve)) k ≡ paper.vtx2framey m c g
  ey-at k g l same =
      (λ j. read outside (framey-is j) (same j)) ∙ read-points_of outside (m + 1) (paper.vtx2framey m c) g l
