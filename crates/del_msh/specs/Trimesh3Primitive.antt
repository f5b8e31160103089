-- The open cylinder's triangles and the closed cylinder, after trimesh3_primitive.rs of del-msh
-- (see NOTICE): its functions, names, loops and order, with - for _ in a name. Line numbers are
-- the source's; tests/src/del_msh/trimesh3_primitive.rs has the same text to be run. Definitions
-- only.
use Rattle.std.specs.Prelude.{Bool, List, [], ℕ, ◌+◌, ◌*◌, eqb, leb, ltb, Float}
use Rattle.std.specs.Float.Ieee.{neg}
use Rattle.surface.specs.Triangles.{Triangle, triangle}
use Rattle.vec3.specs.Points.{plus, times, over}
use Rattle.vec3.specs.Turns.{whole}
use Rattle.vec3.specs.declared.points.Point.{Point}
use Rattle.del_msh.specs.Vectors.{vec, len, push, assert, assign, if, for, ◌‥◌}
use Rattle.del_msh.specs.Arrays.{Outside, minus, quotient, remainder, xyz, zero, one, zeros, assign0, assign1}
use Rattle.del_msh.specs.Arrays.{assign2}
use Rattle.del_msh.specs.DelGeoCore.{TAU, mul, div, cos, sin}

-- `(Vec<[usize; 3]>, Vec<[f32; 3]>)`: triangles and vertices
abbrev pub TriMesh : Type 0
TriMesh = List Triangle × List Point

-- line 7
unfoldable pub cylinder-open-end-number-of-tri-and-vtx : ℕ → ℕ → ℕ × ℕ
cylinder-open-end-number-of-tri-and-vtx ndiv-circumference ndiv-side =
    let num-vtx = ndiv-circumference * (ndiv-side + 1) in
    let num-tri = ndiv-side * ndiv-circumference * 2 in
    (num-tri, num-vtx)

module _ (outside : Outside) where
  -- The Rust's `-`, `/` and `%` on `usize`, which may panic.
  infixl 65 ◌-?◌
  abbrev ◌-?◌ : ℕ → ℕ → ℕ
  ◌-?◌ = minus outside

  infixl 70 ◌/?◌
  abbrev ◌/?◌ : ℕ → ℕ → ℕ
  ◌/?◌ = quotient outside

  infixl 70 ◌%?◌
  abbrev ◌%?◌ : ℕ → ℕ → ℕ
  ◌%?◌ = remainder outside

  -- line 16
  unfoldable pub cylinder-open-end-set-topology : List Triangle → ℕ → List Triangle
  cylinder-open-end-set-topology tri2vtx num-vtxc =
      let ndiv-side = num-vtxc -? 1 in
      let ndiv-circumference = len tri2vtx /? (2 * ndiv-side) in
      let tri2vtx = assert (eqb (len tri2vtx) (ndiv-side * ndiv-circumference * 2)) tri2vtx in
      for (
        0 ‥ ndiv-side,
        λ i-side tri2vtx.
            for (
              0 ‥ ndiv-circumference,
              λ i-edge tri2vtx.
                  let i0-vtx = i-side * ndiv-circumference + i-edge in
                  let i1-vtx = i-side * ndiv-circumference + (i-edge + 1) %? ndiv-circumference in
                  let i2-vtx = i0-vtx + ndiv-circumference in
                  let i3-vtx = i1-vtx + ndiv-circumference in
                  let i-quad = i-side * ndiv-circumference + i-edge in
                  let tri2vtx = assign0 tri2vtx (i-quad * 2) i0-vtx in
                  let tri2vtx = assign1 tri2vtx (i-quad * 2) i3-vtx in
                  let tri2vtx = assign2 tri2vtx (i-quad * 2) i1-vtx in
                  let tri2vtx = assign0 tri2vtx (i-quad * 2 + 1) i0-vtx in
                  let tri2vtx = assign1 tri2vtx (i-quad * 2 + 1) i2-vtx in
                  assign2 tri2vtx (i-quad * 2 + 1) i3-vtx,
            ) tri2vtx,
      ) tri2vtx

  -- line 119; its `with_capacity` says nothing of the list
  unfoldable pub cylinder-closed-end-topology : ℕ → ℕ → List Triangle
  cylinder-closed-end-topology ndiv-side ndiv-circumference =
      let ndiv-longtitude = ndiv-side + 2 in
      let tri2vtx = [] in
      let tri2vtx = for (
        0 ‥ ndiv-circumference,
        λ ic tri2vtx.
            push tri2vtx (triangle 0 (ic + 1) ((ic + 1) %? ndiv-circumference + 1)),
      ) tri2vtx in
      let tri2vtx = for (
        0 ‥ ndiv-longtitude -? 2,
        λ ih tri2vtx.
            for (
              0 ‥ ndiv-circumference,
              λ ic tri2vtx.
                  let i1 = (ih + 0) * ndiv-circumference + 1 + (ic + 0) %? ndiv-circumference in
                  let i2 = (ih + 0) * ndiv-circumference + 1 + (ic + 1) %? ndiv-circumference in
                  let i3 = (ih + 1) * ndiv-circumference + 1 + (ic + 1) %? ndiv-circumference in
                  let i4 = (ih + 1) * ndiv-circumference + 1 + (ic + 0) %? ndiv-circumference in
                  let tri2vtx = push tri2vtx (triangle i3 i2 i1) in
                  push tri2vtx (triangle i4 i3 i1),
            ) tri2vtx,
      ) tri2vtx in
      for (
        0 ‥ ndiv-circumference,
        λ ic tri2vtx.
            let i0 = ndiv-circumference * (ndiv-longtitude -? 1) + 1 in
            let i1 = (ndiv-longtitude -? 2) * ndiv-circumference + 1 + (ic + 1) %? ndiv-circumference in
            let i2 = (ndiv-longtitude -? 2) * ndiv-circumference + 1 + (ic + 0) %? ndiv-circumference in
            push tri2vtx (triangle i0 i1 i2),
      ) tri2vtx

  -- line 160. `length` is the source's name for the cylinder's length; that of a list is `len`.
  unfoldable pub cylinder-closed-end-yup : Float → Float → ℕ → ℕ → Bool → TriMesh
  cylinder-closed-end-yup radius length ndiv-circumference ndiv-length is-center =
      let num-vtx = ndiv-circumference * (ndiv-length + 1) + 2 in
      let vtx2xyz = vec zeros num-vtx in
      let vtx2xyz = assert (leb 1 ndiv-length) vtx2xyz in
      let vtx2xyz = assert (ltb 2 ndiv-circumference) vtx2xyz in
      let two = plus one one in
      let half = over one two in
      let dl = over length (whole ndiv-length) in
      let dr = div TAU ndiv-circumference in
      let y-min = if (is-center, times (neg length) half, zero) in
      -- bottom
      let vtx2xyz = assign vtx2xyz 0 (xyz zero y-min zero) in
      let vtx2xyz = for (
        0 ‥ ndiv-length + 1,
        λ il vtx2xyz.
            let y0 = plus y-min (times dl (whole il)) in
            for (
              0 ‥ ndiv-circumference,
              λ ilo vtx2xyz.
                  let x0 = times radius (cos (mul dr ilo)) in
                  let z0 = times radius (sin (mul dr ilo)) in
                  let i-vtx = il * ndiv-circumference + ilo + 1 in
                  assign vtx2xyz i-vtx (xyz x0 y0 z0),
            ) vtx2xyz,
      ) vtx2xyz in
      -- top
      let vtx2xyz = assign vtx2xyz (num-vtx -? 1) (xyz zero (plus y-min length) zero) in
      let tri2vtx = cylinder-closed-end-topology ndiv-length ndiv-circumference in
      (tri2vtx, vtx2xyz)
