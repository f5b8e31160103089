-- The frames along a curve as tables, and a loop's ends from what is carried to them. Definitions
-- only.
use Rattle.std.specs.Prelude.{◌≡◌, List, [], ◌∷◌, ℕ, ◌≤◌, ◌<◌, Float, length}
use Rattle.laws.specs.Blocks.{blocks}
use Rattle.vec3.specs.Points.{point_in, dot_of, cross_of}
use Rattle.vec3.specs.declared.points.Point.{Point}
use Rattle.vec3.specs.declared.frames.Frame.{Frame}
use Rattle.surface.specs.declared.grid.Chain.{Chain}
use Rattle.curve.specs.Framex.{carried_of, carried_to}
use Rattle.curve.specs.declared.framex.Carried.{Carried}
use Rattle.swept_bodies.specs.Polyloop3.{vtx2framex}
use Rattle.twists.specs.declared.ends.Ends.{Ends}

-- the frames that are carried along the `count` segments of a curve
abbrev pub frames_in : Chain → ℕ → List Float → List Point
frames_in chain count c = blocks count (λ g. (carried_of chain count c g).frame.ex ∷ [])

-- a table that begins with the frames of a loop of N vertices
pub record FrameTable (N : ℕ) (c : List Float) (frames : List Point) : Type 0 where
  pub room : N ≤ length frames
  pub frame : (g : ℕ) → g < N → point_in frames g ≡ (vtx2framex N c g).ex

-- c0 and s0, from what is carried on the last segment, the first direction u and the first frame
unfoldable pub ends_at : Carried → Point → Frame → Ends
ends_at last u first =
    let x = (carried_to last u).frame.ex in
    record { c0 = dot_of x first.ex; s0 = dot_of x (cross_of u first.ex) }
