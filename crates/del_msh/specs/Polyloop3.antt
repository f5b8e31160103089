-- The frames along a closed curve, smoothed or not, and the torus, after polyloop3.rs of del-msh
-- (see NOTICE): its functions, names, loops and order, with - for _ in a name. Line numbers are the
-- source's; tests/src/del_msh/polyloop3.rs has the same text to be run. Definitions only.
use Rattle.std.specs.Prelude.{List, [], ℕ, ◌+◌, ◌*◌, Float}
use Rattle.surface.specs.Triangles.{triangle}
use Rattle.vec3.specs.declared.points.Point.{Point}
use Rattle.del_msh.specs.Vectors.{vec, len, push, assign, for, ◌‥◌}
use Rattle.del_msh.specs.Arrays.{Outside, read, minus, remainder, zeros}
use Rattle.del_msh.specs.DelGeoCore.{Angle, TAU, mul, div, cos, sin}
use Rattle.del_msh.specs.DelGeoCore.{add, sub, scale, dot, cross, normalize, basis-xy-from-basis-z}
use Rattle.del_msh.specs.DelGeoCore.{minimum-rotation-matrix, minimum-rotation-matrix-normalised, mult-vec}
use Rattle.del_msh.specs.Trimesh3Primitive.{TriMesh}

module _ (outside : Outside) where
  -- The Rust's `-` and `%` on `usize`, which may panic.
  infixl 65 ◌-?◌
  abbrev ◌-?◌ : ℕ → ℕ → ℕ
  ◌-?◌ = minus outside

  infixl 70 ◌%?◌
  abbrev ◌%?◌ : ℕ → ℕ → ℕ
  ◌%?◌ = remainder outside

  infixl 90 ◌at◌
  abbrev ◌at◌ : List Point → ℕ → Point
  ◌at◌ = read outside

  -- line 5
  unfoldable pub vtx2framex : List Point → List Point
  vtx2framex vtx2xyz =
      let num-vtx = len vtx2xyz in
      let vtx2bin = vec zeros num-vtx in
      -- first segment
      let p0 = vtx2xyz at 0 in
      let p1 = vtx2xyz at 1 in
      let v01 = sub p1 p0 in
      let x = basis-xy-from-basis-z v01 in
      let vtx2bin = assign vtx2bin 0 x in
      for (
        1 ‥ num-vtx,
        λ iseg1 vtx2bin.
            -- parallel transport
            let iv0 = iseg1 -? 1 in
            let iv1 = iseg1 in
            let iv2 = (iseg1 + 1) %? num-vtx in
            let iseg0 = iseg1 -? 1 in
            let p0 = vtx2xyz at iv0 in
            let p1 = vtx2xyz at iv1 in
            let p2 = vtx2xyz at iv2 in
            let v01 = sub p1 p0 in
            let v12 = sub p2 p1 in
            let rot = minimum-rotation-matrix v01 v12 in
            let b12 = mult-vec rot (vtx2bin at iseg0) in
            assign vtx2bin iseg1 b12,
      ) vtx2bin

  -- line 53. `atan2` is what stands for the arctangent: "The reference is `smooth_frame` with this
  -- k standing for its arctangent. Its tolerance asserts are dropped" (document 02, No. 1).
  unfoldable pub match-frames-of-two-ends : (Float → Float → Angle) → List Point → List Point → List Point
  match-frames-of-two-ends atan2 vtx2xyz vtx2bin0 =
      let num-vtx = len vtx2xyz in
      let theta = (
      let x0 = vtx2bin0 at 0 in
      let p0 = vtx2xyz at 0 in
      let p1 = vtx2xyz at 1 in
      let v01 = normalize (sub p1 p0) in
      let xn = vtx2bin0 at (num-vtx -? 1) in
      let pn = vtx2xyz at (num-vtx -? 1) in
      let vn0 = normalize (sub p0 pn) in
      let rot = minimum-rotation-matrix-normalised vn0 v01 in
      let x1a = mult-vec rot xn in
      let y0 = cross v01 x0 in
      let c0 = dot x1a x0 in
      let s0 = dot x1a y0 in
      atan2 s0 c0
      ) in
      let theta-step = div theta num-vtx in
      let vtx2bin1 = vec zeros num-vtx in
      for (
        0 ‥ num-vtx,
        λ iseg vtx2bin1.
            let dtheta = mul theta-step iseg in
            let x0 = vtx2bin0 at iseg in
            let ivtx0 = iseg in
            let ivtx1 = (iseg + 1) %? num-vtx in
            let p1 = vtx2xyz at ivtx1 in
            let p0 = vtx2xyz at ivtx0 in
            let v01 = normalize (sub p1 p0) in
            let y0 = cross v01 x0 in
            let x0 = scale x0 (sin dtheta) in
            let y0 = scale y0 (cos dtheta) in
            assign vtx2bin1 iseg (add x0 y0),
      ) vtx2bin1

  -- line 106
  unfoldable pub smooth-frame : (Float → Float → Angle) → List Point → List Point
  smooth-frame atan2 vtx2xyz =
      let vtx2bin0 = vtx2framex vtx2xyz in
      match-frames-of-two-ends atan2 vtx2xyz vtx2bin0

  -- line 339
  unfoldable pub to-trimesh3-torus : List Point → List Point → Float → ℕ → TriMesh
  to-trimesh3-torus vtx2xyz vtx2bin rad ndiv-circum =
      let n = ndiv-circum in
      let dtheta = div TAU n in
      let num-vtx = len vtx2xyz in
      let pnt2xyz = [] in
      let pnt2xyz = for (
        0 ‥ num-vtx,
        λ ipnt pnt2xyz.
            let p0 = vtx2xyz at ipnt in
            let p1 = vtx2xyz at ((ipnt + 1) %? num-vtx) in
            let z0 = normalize (sub p1 p0) in
            let x0 = vtx2bin at ipnt in
            let y0 = cross z0 x0 in
            for (
              0 ‥ n,
              λ i pnt2xyz.
                  let theta = mul dtheta i in
                  let v0 = add (scale x0 (cos theta)) (scale y0 (sin theta)) in
                  push pnt2xyz (add p0 (scale v0 rad)),
            ) pnt2xyz,
      ) pnt2xyz in
      let tri2pnt = [] in
      let tri2pnt = for (
        0 ‥ num-vtx,
        λ iseg tri2pnt.
            let ipnt0 = iseg in
            let ipnt1 = (ipnt0 + 1) %? num-vtx in
            for (
              0 ‥ n,
              λ i tri2pnt.
                  let tri2pnt = push tri2pnt (triangle (ipnt0 * n + i) (ipnt0 * n + (i + 1) %? n) (ipnt1 * n + i)) in
                  push tri2pnt (triangle (ipnt1 * n + (i + 1) %? n) (ipnt1 * n + i) (ipnt0 * n + (i + 1) %? n)),
            ) tri2pnt,
      ) tri2pnt in
      (tri2pnt, pnt2xyz)
