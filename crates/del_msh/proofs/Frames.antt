-- The loop of both `vtx2framex`: the first frame, and then each transported from the one before
-- it. Assumes nothing.
use mathlib.Core.Path.{◌≡◌, refl, sym, ap, ◌∙◌}
use mathlib.Core.List.{List, [], ◌∷◌}
use Prim.Native.Nat.{ℕ, zero, suc, ◌+◌, ◌-◌, ◌*◌, ◌≤◌, ◌<◌}
use native.Mathlib.Nat.{not-suc-le-zero, zero-add}
use native.Mathlib.Omega.{arith}
use lib.Ieee.{Float}
use lib.ListN.{length, length-replicate}
use Rattle.laws.specs.Overwrite.{overwrite}
use Rattle.laws.proofs.Overwrite.{length-overwrite, get_or-within}
use Rattle.laws.specs.Blocks.{blocks}
use Rattle.laws.proofs.Blocks.{length-blocks, get_or-blocks}
use Rattle.surface.specs.declared.grid.Chain.{Chain}
use Rattle.vec3.specs.Frames.{transported}
use Rattle.vec3.specs.declared.points.Point.{Point}
use Rattle.curve.specs.Segments.{segment_direction}
use Rattle.curve.specs.Framex.{frame_of}
use Rattle.del_msh.specs.Vectors.{vec, change, turns}
use Rattle.del_msh.specs.Arrays.{Outside, read, zeros}
use Rattle.del_msh.proofs.Loops.{assigned, writes}

-- a point for each vertex
abbrev pub points_of : ℕ → (ℕ → Point) → List Point
points_of n f = blocks n (λ g. f g ∷ [])

pub length-points : (n : ℕ) (f : ℕ → Point) → length (points_of n f) ≡ n
length-points n f = length-blocks 1 n (λ g. f g ∷ []) (λ g _. refl) ∙ omega arith

pub read-points_of : (outside : Outside) (n : ℕ) (f : ℕ → Point) (g : ℕ) → g < n → read outside (points_of n f) g ≡ f g
read-points_of outside n f g h =
    get_or-blocks 1 n (λ k. f k ∷ []) g 0 g outside.point (λ k. refl) h (omega arith) (omega arith)

-- the same where they begin a longer list
pub written_at : (outside : Outside) (n : ℕ) (f : ℕ → Point) (t₀ : List Point) {t : List Point} (g : ℕ) → g < n
    → n ≤ length t₀
    → t ≡ overwrite 0 (points_of n f) t₀ → read outside t g ≡ f g
written_at outside n f t₀ g h room is =
    (λ j. read outside (is j) (sym (zero-add g) j))
    ∙ get_or-within 0 (points_of n f) t₀ g outside.point (omega (arith, length-points n f)) (omega arith)
    ∙ read-points_of outside n f g h

module _ (outside : Outside) (chain : Chain) (count : ℕ) (c : List Float) where
  abbrev pub frame : ℕ → Point
  frame g = (frame_of chain count c g).ex

  -- the frame of segment i, of a point that the frame before it is
  abbrev carried_on : ℕ → Point → Point
  carried_on i b = (transported (record { ex = b }) (segment_direction chain count c (i - 1)) (segment_direction chain count c i)).ex

  frame-next : (i : ℕ) → 1 ≤ i → carried_on i (frame (i - 1)) ≡ frame i
  unfolding frame_of
  frame-next zero h = absurd (not-suc-le-zero h)
  frame-next (suc g) h =
      let e : suc g - 1 ≡ g = omega arith in
      λ j. (transported (frame_of chain count c (e j)) (segment_direction chain count c (e j)) (segment_direction chain count c (suc g))).ex

  pub frames-carried : (room n : ℕ) (turn : ℕ → List Point → List Point) (first : Point) → 1 ≤ n → n ≤ room
      → first ≡ frame 0
      → ((i : ℕ) → 1 ≤ i → i < n → (t : List Point) → turn i t ≡ change t i (λ old. carried_on i (read outside t (i - 1))))
      → turns 1 n turn (change (vec zeros room) 0 (λ old. first)) ≡ overwrite 0 (points_of n frame) (vec zeros room)
  frames-carried room n turn first h fits is each =
      let t₀ = vec zeros room in
      let sized : length t₀ ≡ room = length-replicate room zeros in
      ap (turns 1 n turn) (assigned room 0 0 t₀ (omega arith) refl is sized)
      ∙ writes 1 n 0 1 (λ g. frame g ∷ []) turn t₀ h (λ g. refl) (λ i l u t so.
      let long : length t ≡ room = ap length so ∙ length-overwrite 0 (points_of i frame) t₀ ∙ sized in
      each i l u t
      ∙ assigned room i (0 + i * 1) t (omega arith) (omega arith)
      (ap (carried_on i) (written_at outside i frame t₀ (i - 1) (omega arith) (omega arith) so) ∙ frame-next i l)
      long)
