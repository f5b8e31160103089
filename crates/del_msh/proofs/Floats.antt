-- The floats of a list of points that is made of parts or of blocks. Assumes nothing.
use mathlib.Core.Path.{◌≡◌, refl, ap, ◌∙◌}
use mathlib.Core.List.{List, [], ◌∷◌, ◌++◌}
use Prim.Native.Nat.{ℕ, zero, suc}
use lib.Ieee.{Float}
use Rattle.laws.specs.Blocks.{blocks}
use Rattle.vec3.specs.declared.points.Point.{Point}
use Rattle.del_msh.specs.Adapted.{floats}

pub floats-append : (a b : List Point) → floats (a ++ b) ≡ floats a ++ floats b
floats-append [] b = refl
floats-append (p ∷ a) b = ap (λ (l : List Float). p.x ∷ p.y ∷ p.z ∷ l) (floats-append a b)

pub floats-blocks : (n : ℕ) (f : ℕ → List Point) → floats (blocks n f) ≡ blocks n (λ k. floats (f k))
floats-blocks zero f = refl
floats-blocks (suc n) f =
    floats-append (blocks n f) (f n) ∙ ap (λ (l : List Float). l ++ floats (f n)) (floats-blocks n f)
