-- The frames of a torus without a seam (document 02, No. 1), after `smooth_frame` of polyloop3.rs,
-- and the torus over them. N is the number of the loop's vertices. Definitions only.
use Rattle.std.specs.Prelude.{Bool, cond, List, ℕ, ◌-◌, Float}
use Rattle.std.specs.Float.{nan}
use Rattle.laws.specs.Blocks.{blocks}
use Rattle.surface.specs.declared.grid.Chain.TheVariants.{Closed}
use Rattle.vec3.specs.Points.{dot_of, cross_of}
use Rattle.vec3.specs.Frames.{transported}
use Rattle.vec3.specs.declared.frames.Frame.{Frame}
use Rattle.curve.specs.Segments.{segment_direction}
use Rattle.swept_bodies.specs.Polyloop3.{vtx2framex, torus_ring}
use Rattle.twists.specs.Twists.{share_of, twisted_frame, scores_finite}
use Rattle.twists.specs.Chosen.{chosen_twist}
use Rattle.twists.specs.declared.twist.Twist.{Twist}
use Rattle.twists.specs.declared.ends.Ends.{Ends}

-- "The last frame is transported across vertex 0."
unfoldable pub across_start : ℕ → List Float → Frame
across_start N c =
    transported (vtx2framex N c (N - 1)) (segment_direction Closed N c (N - 1)) (segment_direction Closed N c 0)

-- "Its dots with frame 0 and with cross(first direction, frame 0) are c0 and s0."
unfoldable pub ends_of : ℕ → List Float → Ends
ends_of N c =
    let x = (across_start N c).ex in
    let x0 = (vtx2framex N c 0).ex in
    record { c0 = dot_of x x0; s0 = dot_of x (cross_of (segment_direction Closed N c 0) x0) }

-- not "a c0, s0 or score that isn't finite" (of 23)
abbrev pub ends_finite : ℕ → List Float → Bool
ends_finite N c = scores_finite (ends_of N c).c0 (ends_of N c).s0

-- the k that the search picks
abbrev pub twist_of : ℕ → List Float → Twist
twist_of N c = chosen_twist (ends_of N c).c0 (ends_of N c).s0

-- "Frame j becomes frame·sin + cross(direction, frame)·cos, at k·j/(4096N) turn with the sign of k
-- in the sine."
unfoldable pub smooth_frame : Twist → ℕ → List Float → ℕ → Frame
smooth_frame k N c j = twisted_frame (vtx2framex N c j) (segment_direction Closed N c j) (share_of k j N)

-- "Kind 6 has .. its vertex formula over the new frames": kind 4's ring at vertex g
abbrev pub seamless_part : Twist → ℕ → Float → ℕ → List Float → ℕ → List Float
seamless_part k n r N c g = torus_ring n r N c (smooth_frame k N c g) g

abbrev pub seamless_vertices : Twist → ℕ → Float → ℕ → List Float → List Float
seamless_vertices k n r N c = blocks N (seamless_part k n r N c)

-- The radius with which the vertices are written: where c0, s0 or a score is not finite, a NaN
-- marks every vertex, and 23 refuses the body.
abbrev pub drawn_radius : Float → Bool → Float
drawn_radius r ends = cond ends r nan
