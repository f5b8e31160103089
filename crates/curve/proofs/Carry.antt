-- What is carried along a curve: on its first segment, and on each segment after it, one transport
-- further. Assumes nothing.
use Rattle.std.proofs.Common.{◌≡◌, refl, List, ℕ, ◌+◌, add-one, Float}
use Rattle.surface.specs.declared.grid.Chain.{Chain}
use Rattle.curve.specs.Segments.{segment_direction}
use Rattle.vec3.specs.Frames.{first_frame}
use Rattle.curve.specs.Framex.{frame_of, carried_of, carried_on, carried_to}

pub carried_first : (chain : Chain) (count : ℕ) (c : List Float)
    → carried_on (segment_direction chain count c 0) ≡ carried_of chain count c 0
unfolding carried_on carried_of frame_of first_frame segment_direction
carried_first chain count c = refl

pub carried-next : (chain : Chain) (count : ℕ) (c : List Float) (g : ℕ)
    → carried_to (carried_of chain count c g) (segment_direction chain count c (g + 1)) ≡ carried_of chain count c (g + 1)
unfolding carried_of carried_to frame_of
carried-next chain count c g = rw add-one
