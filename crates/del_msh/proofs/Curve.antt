-- The points that the curve's floats are cut into are document 01's vertices. Assumes nothing.
use mathlib.Core.Path.{◌≡◌, refl, ◌∙◌}
use mathlib.Core.List.{List, [], ◌∷◌}
use Prim.Native.Nat.{ℕ, zero, suc, ◌+◌, ◌*◌, ◌<◌}
use native.Mathlib.Nat.{not-suc-le-zero}
use native.Mathlib.Omega.{arith}
use borrow.Author.Tests.{lt-ltb}
use lib.Ieee.{Float, nan}
use lib.ListN.{length, get_or}
use Rattle.curve.specs.Segments.{vertices_in, vertex_of}
use Rattle.del_msh.specs.Arrays.{Outside, read, xyz}
use Rattle.del_msh.specs.Adapted.{chunks}

pub length-chunks : (c : List Float) → length (chunks c) ≡ vertices_in c
length-chunks [] = refl
length-chunks (x ∷ []) = refl
length-chunks (x ∷ y ∷ []) = refl
length-chunks (x ∷ y ∷ z ∷ rest) = omega (arith, length-chunks rest)

chunk : (outside : Outside) (c : List Float) (k : ℕ) → k < length (chunks c)
    → read outside (chunks c) k ≡ xyz (get_or c (3 * k) nan) (get_or c (3 * k + 1) nan) (get_or c (3 * k + 2) nan)
chunk outside [] k h = absurd (not-suc-le-zero h)
chunk outside (x ∷ []) k h = absurd (not-suc-le-zero h)
chunk outside (x ∷ y ∷ []) k h = absurd (not-suc-le-zero h)
chunk outside (x ∷ y ∷ z ∷ rest) zero h = refl
chunk outside (x ∷ y ∷ z ∷ rest) (suc k) h =
    let three : suc (suc (suc (3 * k))) ≡ 3 * suc k = omega arith in
    let four : suc (suc (suc (3 * k + 1))) ≡ 3 * suc k + 1 = omega arith in
    let five : suc (suc (suc (3 * k + 2))) ≡ 3 * suc k + 2 = omega arith in
    let c = x ∷ y ∷ z ∷ rest in
    chunk outside rest k (omega arith)
    ∙ (λ j. xyz (get_or c (three j) nan) (get_or c (four j) nan) (get_or c (five j) nan))

-- `vtx2xyz[k]`, under another name of k
pub vertex-at : (outside : Outside) (c : List Float) (k k' : ℕ) → k' < vertices_in c → k ≡ k'
    → read outside (chunks c) k ≡ vertex_of c k'
unfolding vertex_of
vertex-at outside c k k' h same =
    let within : k < length (chunks c) = omega (arith, length-chunks c) in
    rw (lt-ltb k' (vertices_in c) h) (chunk outside c k within ∙ (λ j. xyz (get_or c (3 * same j) nan) (get_or c (3 * same j + 1) nan) (get_or c (3 * same j + 2) nan)))
