-- The frame of each segment of a curve (document 01, 'Frames and vertices'). Definitions only.
use Rattle.std.specs.Prelude.{List, ℕ, zero, suc, Float}
use Rattle.surface.specs.declared.grid.Chain.{Chain}
use Rattle.vec3.specs.Frames.{frame_beside, first_frame, transported}
use Rattle.vec3.specs.declared.points.Point.{Point}
use Rattle.vec3.specs.declared.frames.Frame.{Frame}
use Rattle.curve.specs.Segments.{segment_of, segment_direction}
use Rattle.curve.specs.declared.framex.Carried.{Carried}

-- "frame 0 from the first segment, frames 1 to m − 1 transported", and of a closed curve "frames
-- 1 to N − 1 transported, the last onto the closing segment": the frame of segment g, for every
-- g. It looks at no vertex past the segment's end.
unfoldable pub frame_of : Chain → ℕ → List Float → ℕ → Frame
frame_of chain count c zero = first_frame (segment_of chain count c 0)
frame_of chain count c (suc g) =
    transported (frame_of chain count c g) (segment_direction chain count c g) (segment_direction chain count c (suc g))

-- What is carried along a curve: on segment g, its frame and its direction.
unfoldable pub carried_of : Chain → ℕ → List Float → ℕ → Carried
carried_of chain count c g = record { frame = frame_of chain count c g; direction = segment_direction chain count c g }

-- on a first segment whose direction is u, and on the next segment, whose direction is w
unfoldable pub carried_on : Point → Carried
carried_on u = record { frame = frame_beside u; direction = u }

unfoldable pub carried_to : Carried → Point → Carried
carried_to b w = record { frame = transported b.frame b.direction w; direction = w }
