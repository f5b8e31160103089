-- Frames along a curve (document 01, 'Arithmetic'). Definitions only.
use Rattle.std.specs.Prelude.{cond}
use Rattle.std.specs.Float.{binary32}
use Rattle.std.specs.Float.Ieee.{of_bits, le, neg}
use Rattle.vec3.specs.Points.{plus, over, sum_of, scaled, dot_of, cross_of, normalised}
use Rattle.vec3.specs.declared.points.Point.{Point}
use Rattle.vec3.specs.declared.frames.Frame.{Frame}

-- (uz, +0, −ux), and (+0, −uz, uy)
unfoldable pub across_y : Point → Point
across_y u = record { x = u.z; y = of_bits binary32 0; z = neg u.x }

unfoldable pub across_x : Point → Point
across_x u = record { x = of_bits binary32 0; y = neg u.z; z = u.y }

-- "(uz, +0, −ux) if the dot of this triple with itself is at least 2^−4, else (+0, −uz, uy)".
-- 3D800000 is 2^−4.
unfoldable pub perpendicular_to : Point → Point
perpendicular_to u =
    cond (le (of_bits binary32 0x3D80_0000) (dot_of (across_y u) (across_y u))) (across_y u) (across_x u)

-- "First frame of direction v: u = v normalised; .. then normalised.": of u, and of v
unfoldable pub frame_beside : Point → Frame
frame_beside u = record { ex = normalised (perpendicular_to u) }

unfoldable pub first_frame : Point → Frame
first_frame v = frame_beside (normalised v)

-- "for segment directions normalised u, w and frame b, with c = dot(u, w), q = cross(u, w),
-- it is (b·c + cross(q, b)) + q·(dot(q, b)/(1 + c))". 3F800000 is 1.
unfoldable pub transported : Frame → Point → Point → Frame
transported f u w =
    let b = f.ex in
    let c = dot_of u w in
    let q = cross_of u w in
    let along = over (dot_of q b) (plus (of_bits binary32 0x3F80_0000) c) in
    record { ex = sum_of (sum_of (scaled b c) (cross_of q b)) (scaled q along) }
