-- Only a seamless torus has a twist: of a body of any other kind nothing is asked of k, and it is
-- drawn as it is described. So a law of every body is one of seamless tori and one of bodies
-- without a twist. Assumes nothing.
use Rattle.std.proofs.Common.{◌≡◌, refl, true, List, ℕ, Float}
use Rattle.descriptions.specs.declared.description.Description.{Description}
use Rattle.descriptions.specs.declared.description.Description.TheVariants.{Ribbon, Tube, Capsule}
use Rattle.descriptions.specs.declared.description.Description.TheVariants.{Torus, ClosedCylinder, SeamlessTorus}
use Rattle.twists.specs.declared.twist.Twist.{Twist}
use Rattle.bodies.specs.Bodies.{twist_finite, BestTwist, marked}

pub record Untwisted (c : List Float) (d : Description) : Type 0 where
  pub finite : twist_finite d c ≡ true
  pub best : (k : Twist) → BestTwist d c k
  pub whole : marked d c ≡ d

module _ (P : Description → Type 0) (c : List Float) (seamless : (n : ℕ) (r : Float) → P (SeamlessTorus n r))
    (untwisted : (d : Description) → Untwisted c d → P d) where
  pub by-twist : (d : Description) → P d
  by-twist (Ribbon w) = untwisted (Ribbon w) (record { finite = refl; best = λ k. tt; whole = refl })
  by-twist (Tube n r) = untwisted (Tube n r) (record { finite = refl; best = λ k. tt; whole = refl })
  by-twist (Capsule n L r) = untwisted (Capsule n L r) (record { finite = refl; best = λ k. tt; whole = refl })
  by-twist (Torus n r) = untwisted (Torus n r) (record { finite = refl; best = λ k. tt; whole = refl })
  by-twist (ClosedCylinder n S centred r l) =
      untwisted (ClosedCylinder n S centred r l) (record { finite = refl; best = λ k. tt; whole = refl })
  by-twist (SeamlessTorus n r) = seamless n r
