-- The frames along an open curve, tube, capsule and ribbon, after polyline3.rs of del-msh (see
-- NOTICE): its functions, names, loops and order, with - for _ in a name. Line numbers are the
-- source's; tests/src/del_msh/polyline3.rs has the same text to be run. Definitions only.
use Rattle.std.specs.Prelude.{true, List, ℕ, ◌+◌, ◌*◌, eqb, ltb, Float}
use Rattle.std.specs.Float.Ieee.{neg}
use Rattle.surface.specs.Triangles.{triangle}
use Rattle.vec3.specs.Points.{times}
use Rattle.vec3.specs.declared.points.Point.{Point}
use Rattle.del_msh.specs.Vectors.{vec, len, assert, assign, if, for, ◌‥◌}
use Rattle.del_msh.specs.Arrays.{Outside, read, minus, quotient, one, zeros, zero_triangle, assign_x, assign_y}
use Rattle.del_msh.specs.Arrays.{assign_z}
use Rattle.del_msh.specs.DelGeoCore.{TAU, FRAC-PI-2, mul, div, cos, sin}
use Rattle.del_msh.specs.DelGeoCore.{add, sub, scale, cross, normalize, mult-vec}
use Rattle.del_msh.specs.DelGeoCore.{basis-xy-from-basis-z, minimum-rotation-matrix}
use Rattle.del_msh.specs.Trimesh3Primitive.{TriMesh, cylinder-closed-end-yup}

module _ (outside : Outside) where
  -- The Rust's `-` and `/` on `usize`, which may panic.
  infixl 65 ◌-?◌
  abbrev ◌-?◌ : ℕ → ℕ → ℕ
  ◌-?◌ = minus outside

  infixl 70 ◌/?◌
  abbrev ◌/?◌ : ℕ → ℕ → ℕ
  ◌/?◌ = quotient outside

  infixl 90 ◌at◌
  abbrev ◌at◌ : List Point → ℕ → Point
  ◌at◌ = read outside

  -- line 27, "bi-normal vector on each vertex"
  unfoldable pub vtx2framex : List Point → List Point
  vtx2framex vtx2xyz =
      let num-vtx = len vtx2xyz in
      let vtx2bin = vec zeros num-vtx in
      -- first segment
      let p1 = vtx2xyz at 1 in
      let p0 = vtx2xyz at 0 in
      let v01 = sub p1 p0 in
      let x = basis-xy-from-basis-z v01 in
      let vtx2bin = assign vtx2bin 0 x in
      let vtx2bin = for (
        1 ‥ num-vtx -? 1,
        λ i-seg1 vtx2bin.
            let iv0 = i-seg1 -? 1 in
            let iv1 = i-seg1 in
            let iv2 = i-seg1 + 1 in
            let i-seg0 = i-seg1 -? 1 in
            let p0 = vtx2xyz at iv0 in
            let p1 = vtx2xyz at iv1 in
            let p2 = vtx2xyz at iv2 in
            let v01 = sub p1 p0 in
            let v12 = sub p2 p1 in
            let rot = minimum-rotation-matrix v01 v12 in
            let b12 = mult-vec rot (vtx2bin at i-seg0) in
            assign vtx2bin i-seg1 b12,
      ) vtx2bin in
      assign vtx2bin (num-vtx -? 1) (vtx2bin at (num-vtx -? 2))

  -- line 74
  unfoldable pub framez : List Point → ℕ → Point
  framez vtx2xyz i-vtx =
      let num-vtx = len vtx2xyz in
      let vtx2xyz = assert (ltb i-vtx num-vtx) vtx2xyz in
      if (
        eqb i-vtx 0,
        let p1 = vtx2xyz at 0 in
            let p2 = vtx2xyz at 1 in
            normalize (sub p2 p1),
        if (
          eqb i-vtx (num-vtx -? 1),
          let p0 = vtx2xyz at (num-vtx -? 2) in
              let p1 = vtx2xyz at (num-vtx -? 1) in
              normalize (sub p1 p0),
          let p0 = vtx2xyz at (i-vtx -? 1) in
              let p1 = vtx2xyz at i-vtx in
              let p2 = vtx2xyz at (i-vtx + 1) in
              let u01 = normalize (sub p1 p0) in
              let u12 = normalize (sub p2 p1) in
              normalize (add u01 u12),
        ),
      )

  -- line 99
  unfoldable pub vtx2framey : List Point → List Point → List Point
  vtx2framey vtx2xyz vtx2framex =
      let num-vtx = len vtx2xyz in
      let vtx2framex = assert (eqb (len vtx2framex) num-vtx) vtx2framex in
      let vtx2framey = vec zeros num-vtx in
      for (
        0 ‥ num-vtx,
        λ i-vtx vtx2framey.
            let framez = framez vtx2xyz i-vtx in
            let framex = vtx2framex at i-vtx in
            assign vtx2framey i-vtx (cross framez framex),
      ) vtx2framey

  -- line 143
  unfoldable pub set-vtx2xyz-for-generalized-cylinder-open-end : List Point → List Point → Float → List Point
  set-vtx2xyz-for-generalized-cylinder-open-end vtx2xyz vtxl2xyz rad =
      let num-vtxl = len vtxl2xyz in
      let num-vtx = len vtx2xyz in
      let ndiv-circum = num-vtx /? num-vtxl in
      let vtxl2framex = vtx2framex vtxl2xyz in
      let vtxl2framey = vtx2framey vtxl2xyz vtxl2framex in
      for (
        0 ‥ num-vtxl,
        λ i-vtxl vtx2xyz.
            let p0 = vtxl2xyz at i-vtxl in
            let ex = vtxl2framex at i-vtxl in
            let ey = vtxl2framey at i-vtxl in
            for (
              0 ‥ ndiv-circum,
              λ ic vtx2xyz.
                  let theta = div (mul TAU ic) ndiv-circum in
                  let ay = scale ey (times rad (cos theta)) in
                  let ax = scale ex (times rad (sin theta)) in
                  let q = add (add p0 ay) ax in
                  assign vtx2xyz (i-vtxl * ndiv-circum + ic) q,
            ) vtx2xyz,
      ) vtx2xyz

  -- line 175
  unfoldable pub to-trimesh3-capsule : List Point → ℕ → ℕ → Float → TriMesh
  to-trimesh3-capsule vtxl2xyz ndiv-circum ndiv-longtitude r =
      let vtxl2xyz = assert (ltb 2 ndiv-circum) vtxl2xyz in
      let num-vtxl = len vtxl2xyz in
      let vtxl2framex = vtx2framex vtxl2xyz in
      let vtxl2framey = vtx2framey vtxl2xyz vtxl2framex in
      let ndiv-length = num-vtxl -? 1 in
      let tri2vtx-vtx2xyz =
      cylinder-closed-end-yup outside one one ndiv-circum (2 * ndiv-longtitude + ndiv-length -? 2) true in
      let tri2vtx = tri2vtx-vtx2xyz.0 in
      let vtx2xyz = tri2vtx-vtx2xyz.1 in
      let vtx2xyz = assert (eqb (len vtx2xyz) ((2 * ndiv-longtitude + ndiv-length -? 1) * ndiv-circum + 2)) vtx2xyz in
      -- south pole
      let p0 = vtxl2xyz at 0 in
      let ez = framez vtxl2xyz 0 in
      let q = sub p0 (scale ez r) in
      let vtx2xyz = assign_x vtx2xyz 0 q.x in
      let vtx2xyz = assign_y vtx2xyz 0 q.y in
      let vtx2xyz = assign_z vtx2xyz 0 q.z in
      let vtx2xyz = for (
        0 ‥ ndiv-longtitude,
        λ ir vtx2xyz.
            let p0 = vtxl2xyz at 0 in
            let ex = vtxl2framex at 0 in
            let ey = vtxl2framey at 0 in
            let ez = framez vtxl2xyz 0 in
            let t0 = div (mul FRAC-PI-2 (ndiv-longtitude -? 1 -? ir)) ndiv-longtitude in
            let c0 = times r (cos t0) in
            for (
              0 ‥ ndiv-circum,
              λ ic vtx2xyz.
                  let theta = div (mul TAU ic) ndiv-circum in
                  let az = scale ez (times (neg r) (sin t0)) in
                  let ay = scale ey (times c0 (cos theta)) in
                  let ax = scale ex (times c0 (sin theta)) in
                  let q = add (add (add p0 az) ay) ax in
                  let vtx2xyz = assign_x vtx2xyz (1 + ir * ndiv-circum + ic) q.x in
                  let vtx2xyz = assign_y vtx2xyz (1 + ir * ndiv-circum + ic) q.y in
                  assign_z vtx2xyz (1 + ir * ndiv-circum + ic) q.z,
            ) vtx2xyz,
      ) vtx2xyz in
      let vtx2xyz = for (
        0 ‥ ndiv-length -? 1,
        λ il vtx2xyz.
            let p0 = vtxl2xyz at (il + 1) in
            let ex = vtxl2framex at (il + 1) in
            let ey = vtxl2framey at (il + 1) in
            for (
              0 ‥ ndiv-circum,
              λ ic vtx2xyz.
                  let theta = div (mul TAU ic) ndiv-circum in
                  let ay = scale ey (times r (cos theta)) in
                  let ax = scale ex (times r (sin theta)) in
                  let q = add (add p0 ay) ax in
                  let vtx2xyz = assign_x vtx2xyz (1 + (il + ndiv-longtitude) * ndiv-circum + ic) q.x in
                  let vtx2xyz = assign_y vtx2xyz (1 + (il + ndiv-longtitude) * ndiv-circum + ic) q.y in
                  assign_z vtx2xyz (1 + (il + ndiv-longtitude) * ndiv-circum + ic) q.z,
            ) vtx2xyz,
      ) vtx2xyz in
      let vtx2xyz = for (
        0 ‥ ndiv-longtitude,
        λ ir vtx2xyz.
            let p0 = vtxl2xyz at (num-vtxl -? 1) in
            let ex = vtxl2framex at (num-vtxl -? 1) in
            let ey = vtxl2framey at (num-vtxl -? 1) in
            let ez = framez vtxl2xyz (num-vtxl -? 1) in
            let t0 = div (mul FRAC-PI-2 ir) ndiv-longtitude in
            let c0 = times r (cos t0) in
            for (
              0 ‥ ndiv-circum,
              λ ic vtx2xyz.
                  let theta = div (mul TAU ic) ndiv-circum in
                  let az = scale ez (times r (sin t0)) in
                  let ay = scale ey (times c0 (cos theta)) in
                  let ax = scale ex (times c0 (sin theta)) in
                  let q = add (add (add p0 az) ax) ay in
                  let vtx2xyz =
                  assign_x vtx2xyz (1 + (ir + ndiv-length + ndiv-longtitude -? 1) * ndiv-circum + ic) q.x in
                  let vtx2xyz =
                  assign_y vtx2xyz (1 + (ir + ndiv-length + ndiv-longtitude -? 1) * ndiv-circum + ic) q.y in
                  assign_z vtx2xyz (1 + (ir + ndiv-length + ndiv-longtitude -? 1) * ndiv-circum + ic) q.z,
            ) vtx2xyz,
      ) vtx2xyz in
      -- North Pole
      let p0 = vtxl2xyz at (num-vtxl -? 1) in
      let ez = framez vtxl2xyz (num-vtxl -? 1) in
      let q = add p0 (scale ez r) in
      let np = len vtx2xyz in
      let vtx2xyz = assign_x vtx2xyz (np -? 1) q.x in
      let vtx2xyz = assign_y vtx2xyz (np -? 1) q.y in
      let vtx2xyz = assign_z vtx2xyz (np -? 1) q.z in
      (tri2vtx, vtx2xyz)

  -- line 332
  unfoldable pub to-trimesh3-ribbon : List Point → List Point → Float → TriMesh
  to-trimesh3-ribbon vtxl2xyz vtxl2framex width =
      let num-vtxl = len vtxl2xyz in
      let vtx2xyz = vec zeros (num-vtxl * 2) in
      let vtx2xyz = for (
        0 ‥ num-vtxl,
        λ i-vtxl vtx2xyz.
            let vtx2xyz = assign vtx2xyz (i-vtxl * 2) (vtxl2xyz at i-vtxl) in
            assign vtx2xyz (i-vtxl * 2 + 1) (add (vtxl2xyz at i-vtxl) (scale (vtxl2framex at i-vtxl) width)),
      ) vtx2xyz in
      let num-tri = (num-vtxl -? 1) * 2 in
      let tri2vtx = vec zero_triangle num-tri in
      let tri2vtx = for (
        0 ‥ num-vtxl -? 1,
        λ i-vtxl tri2vtx.
            let tri2vtx = assign tri2vtx (i-vtxl * 2) (triangle (i-vtxl * 2) (i-vtxl * 2 + 1) (i-vtxl * 2 + 2)) in
            assign tri2vtx (i-vtxl * 2 + 1) (triangle (i-vtxl * 2 + 1) (i-vtxl * 2 + 3) (i-vtxl * 2 + 2)),
      ) tri2vtx in
      (tri2vtx, vtx2xyz)
