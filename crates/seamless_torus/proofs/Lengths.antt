-- How many floats the vertices of a seamless torus are: as many as those of any rings on its loop.
-- Assumes nothing.
use Rattle.std.proofs.Common.{◌≡◌, List, ℕ, ◌*◌, Float, length}
use Rattle.twists.specs.declared.twist.Twist.{Twist}
use Rattle.swept_bodies.proofs.Lengths.{length-loop}
use Rattle.seamless_torus.specs.Polyloop3.{smooth_frame, seamless_vertices}

pub length-seamless : (k : Twist) (n : ℕ) (r : Float) (N : ℕ) (c : List Float)
    → length (seamless_vertices k n r N c) ≡ N * (n * 3)
length-seamless k n r N c = length-loop (smooth_frame k N c) n r N c
