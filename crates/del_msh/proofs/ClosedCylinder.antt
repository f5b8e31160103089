-- The closed cylinder of trimesh3_primitive.rs is document 01's. Assumes nothing.
use mathlib.Core.Path.{◌≡◌, refl, sym, ap, ◌∙◌}
use mathlib.Core.Bool.{Bool, cond}
use mathlib.Core.List.{List, [], ◌∷◌, ◌++◌}
use Prim.Native.Nat.{ℕ, ◌+◌, ◌*◌, ◌≤◌, ◌<◌}
use native.Mathlib.Omega.{arith}
use borrow.Author.Tests.{lt-ltb, le-leb}
use lib.Ieee.{Float, binary32, of_bits, add, div, neg}
use lib.ListN.{length, length-append, length-replicate}
use Rattle.laws.proofs.Overlaps.{overwrite-all}
use Rattle.vec3.specs.Points.{coordinates, plus, times, over}
use Rattle.vec3.specs.Turns.{whole}
use Rattle.vec3.specs.declared.points.Point.{Point}
use Rattle.vec3.specs.declared.turns.Direction.{Direction}
use Rattle.rings.specs.Vertices.{level_at, level_vertex, pole}
use Rattle.kinds.specs.Lists.{closed_triangles}
use Rattle.ring_writers.proofs.Lengths.{cylinder-parts}
use Rattle.ring_writers.specs.ClosedCylinder.{low_of, cylinder_vertices}
use Rattle.del_msh.specs.Vectors.{vec}
use Rattle.del_msh.specs.Arrays.{Outside, minus, xyz, zero, one, zeros}
use Rattle.del_msh.specs.DelGeoCore.{cos, sin}
use Rattle.del_msh.specs.Trimesh3Primitive.{cylinder-closed-end-yup}
use Rattle.del_msh.specs.Adapted.{floats}
use Rattle.del_msh.proofs.Loops.{assigned}
use Rattle.del_msh.proofs.Floats.{floats-append}
use Rattle.del_msh.proofs.Usize.{minus_is}
use Rattle.del_msh.proofs.Topology.{closed-topology}
use Rattle.del_msh.proofs.Rings.{whole-turn, rings_points, length-rings, rings-floats, rings-assigned, behind}

-- `half`, worked out in floats, is 0.5
half_is : over one (plus one one) ≡ of_bits binary32 0x3F00_0000
unfolding add div of_bits
half_is = refl

low-is : (centred : Bool) (l : Float) → cond centred (times (neg l) (over one (plus one one))) zero ≡ low_of centred l
unfolding low_of
low-is centred l = ap (λ (half : Float). cond centred (times (neg l) half) zero) half_is

-- a pole, rings, a pole
closed-floats : (bottom : Point) (rings : List Point) (top : Point)
    → floats (((bottom ∷ []) ++ rings) ++ (top ∷ [])) ≡ coordinates bottom ++ (floats rings ++ coordinates top)
closed-floats bottom rings top = ap (λ (l : List Float). coordinates bottom ++ l) (floats-append rings (top ∷ []))

-- the sizes that it asserts
module _ (outside : Outside) (r l : Float) (n S : ℕ) (centred : Bool) (three : 2 < n) (some : 1 ≤ S) where
  abbrev bottom : Point
  bottom = pole (low_of centred l)

  abbrev vertex : ℕ → Direction → Point
  vertex = level_vertex r (low_of centred l) l S

  abbrev rings : List Point
  rings = rings_points (S + 1) vertex n

  abbrev top : Point
  top = pole (plus (low_of centred l) l)

  yup-vertices : (cylinder-closed-end-yup outside r l n S centred).1 ≡ ((bottom ∷ []) ++ rings) ++ (top ∷ [])
  unfolding cylinder-closed-end-yup level_at cos sin
  yup-vertices =
      let room = n * (S + 1) + 2 in
      let t₀ = vec zeros room in
      let sized : length t₀ ≡ room = length-replicate room zeros in
      let low = low-is centred l in
      let e = length-rings (S + 1) vertex n in
      rw (lt-ltb 2 n three, le-leb 1 S some) (
      behind room (n * (S + 1) + 1) ((bottom ∷ []) ++ rings) (top ∷ []) t₀ sized
      (assigned room (minus outside room 1) (n * (S + 1) + 1) _ (omega arith) (minus_is outside room 1 (n * (S + 1) + 1) (omega arith)) (ap (λ (y : Float). pole (plus y l)) low))
      (behind room 1 (bottom ∷ []) rings t₀ sized
      (rings-assigned room (S + 1) n 1 vertex _ _ (omega arith) (λ g i hg hi h t.
      assigned room (g * n + i + 1) (1 + g * n + i) t h (omega arith)
      (λ j. xyz (times r (whole-turn i n j).cos) (plus (low j) (times (over l (whole S)) (whole g))) (times r (whole-turn i n j).sin))))
      (assigned room 0 0 t₀ (omega arith) refl (ap pole low) sized)
      refl)
      (omega arith)
      ∙ overwrite-all (((bottom ∷ []) ++ rings) ++ (top ∷ [])) t₀ (omega (arith, length-append rings (top ∷ []))))

  pub yup-length : length (cylinder-closed-end-yup outside r l n S centred).1 ≡ n * (S + 1) + 2
  yup-length = ap length yup-vertices ∙ omega (arith, length-append rings (top ∷ []), length-rings (S + 1) vertex n)

  pub yup-floats : floats (cylinder-closed-end-yup outside r l n S centred).1 ≡ cylinder_vertices r l n S centred
  yup-floats =
      ap floats yup-vertices
      ∙ closed-floats bottom rings top
      ∙ ap (λ (l : List Float). coordinates bottom ++ (l ++ coordinates top)) (rings-floats (S + 1) vertex n)
      ∙ sym (cylinder-parts r l n S centred)

  pub yup-triangles : (cylinder-closed-end-yup outside r l n S centred).0 ≡ closed_triangles n S
  unfolding cylinder-closed-end-yup
  yup-triangles = closed-topology outside S n
