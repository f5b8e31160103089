-- A table at whose front the frames that are carried round a loop were written has the loop's
-- frames, and the ends that are made from what is carried are the loop's. Assumes nothing.
use Rattle.std.proofs.Common.{◌≡◌, refl, ap, ◌∙◌, List, ℕ, ◌-◌, ◌≤◌, Float, length, arith}
use Rattle.laws.specs.Overwrite.{overwrite}
use Rattle.laws.proofs.Overwrite.{length-overwrite}
use Rattle.surface.specs.declared.grid.Chain.TheVariants.{Closed}
use Rattle.curve.specs.Segments.{segment_direction}
use Rattle.curve.specs.Framex.{carried_of, carried_to}
use Rattle.curve.proofs.Points.{table-point}
use Rattle.swept_bodies.specs.Polyloop3.{vtx2framex}
use Rattle.swept_bodies.proofs.Axes.{frame-on-loop}
use Rattle.vec3.specs.Points.{point_in}
use Rattle.vec3.specs.declared.points.Point.{Point}
use Rattle.vec3.specs.declared.frames.Frame.{Frame}
use Rattle.seamless_torus.specs.Frames.{frames_in, FrameTable, ends_at}
use Rattle.seamless_torus.specs.Polyloop3.{across_start, ends_of}

module _ (N : ℕ) (c : List Float) where
  -- the table at whose front the frames were written
  pub written-frames : (t₀ : List Point) {t : List Point} → N ≤ length t₀
      → t ≡ overwrite 0 (frames_in Closed N c) t₀ → FrameTable N c t
  written-frames t₀ h whole =
      record {
        room = omega (arith, ap length whole, length-overwrite 0 (frames_in Closed N c) t₀);
        frame = λ g l. ap (λ (t : List Point). point_in t g) whole
            ∙ table-point 0 N (λ g. (carried_of Closed N c g).frame.ex) t₀ g (omega arith) l (omega arith)
            ∙ ap (λ (f : Frame). f.ex) (frame-on-loop N c g);
      }

  -- the ends, from what is carried on the last segment, the first direction and the first frame
  pub ends-of-loop : ends_at (carried_of Closed N c (N - 1)) (segment_direction Closed N c 0)
      (vtx2framex N c 0) ≡ ends_of N c
  unfolding ends_at ends_of across_start carried_to carried_of vtx2framex
  ends-of-loop = refl
