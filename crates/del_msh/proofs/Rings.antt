-- Rings of points, as the loops over `i_vtxl`, `il` or `ir` and `ic` make them. Assumes nothing.
use mathlib.Core.Path.{◌≡◌, refl, sym, ap, ◌∙◌}
use mathlib.Core.List.{List, [], ◌∷◌, ◌++◌}
use Prim.Native.Nat.{ℕ, ◌+◌, ◌*◌, ◌≤◌, ◌<◌}
use native.Mathlib.Nat.{one-mul, zero-add}
use native.Mathlib.Omega.{arith}
use lib.ListN.{length}
use Rattle.laws.specs.Overwrite.{overwrite}
use Rattle.laws.proofs.Overwrite.{length-overwrite, written_behind}
use Rattle.laws.proofs.Products.{row_within}
use Rattle.laws.specs.Blocks.{blocks}
use Rattle.laws.proofs.Blocks.{length-blocks, blocks-cong}
use Rattle.vec3.specs.Turns.{turn_of}
use Rattle.vec3.specs.declared.points.Point.{Point}
use Rattle.vec3.specs.declared.turns.Direction.{Direction}
use Rattle.rings.specs.Vertices.{ring_of}
use Rattle.del_msh.specs.Vectors.{turns}
use Rattle.del_msh.specs.Arrays.{Outside, minus, xyz, assign_x, assign_y, assign_z}
use Rattle.del_msh.specs.Adapted.{floats}
use Rattle.del_msh.proofs.Loops.{assigned-by-three, fills, pushes}
use Rattle.del_msh.proofs.Usize.{minus_is}
use Rattle.del_msh.proofs.Floats.{floats-blocks}

-- `TAU * i / n`, in either order, is turn(i, n)
pub whole-turn : (i n : ℕ) → turn_of (1 * i) (1 * n) ≡ turn_of i n
whole-turn i n = λ j. turn_of (one-mul i j) (one-mul n j)

-- a ring of n points, and k of them
abbrev ring_points : (Direction → Point) → ℕ → List Point
ring_points vertex n = blocks n (λ i. vertex (turn_of i n) ∷ [])

abbrev pub rings_points : ℕ → (ℕ → Direction → Point) → ℕ → List Point
rings_points k vertex n = blocks k (λ g. ring_points (vertex g) n)

length-ring : (vertex : ℕ → Direction → Point) (n g : ℕ) → length (ring_points (vertex g) n) ≡ n
length-ring vertex n g = length-blocks 1 n (λ i. vertex g (turn_of i n) ∷ []) (λ i _. refl) ∙ omega arith

pub length-rings : (k : ℕ) (vertex : ℕ → Direction → Point) (n : ℕ) → length (rings_points k vertex n) ≡ k * n
length-rings k vertex n = length-blocks n k (λ g. ring_points (vertex g) n) (λ g _. length-ring vertex n g)

pub rings-floats : (k : ℕ) (vertex : ℕ → Direction → Point) (n : ℕ)
    → floats (rings_points k vertex n) ≡ blocks k (λ g. ring_of (vertex g) n)
rings-floats k vertex n =
    floats-blocks k (λ g. ring_points (vertex g) n)
    ∙ blocks-cong k (λ g. floats (ring_points (vertex g) n)) (λ g. ring_of (vertex g) n) (λ g _. floats-blocks n (λ i. vertex g (turn_of i n) ∷ []))

-- a point assigned component by component, under other names of its place and its value
pub point-assigned-by-three : (room p q : ℕ) {v w : Point} (t : List Point) → q < room → p ≡ q → v ≡ w → length t ≡ room
    → assign_z (assign_y (assign_x t p v.x) p v.y) p v.z ≡ overwrite q (w ∷ []) t
point-assigned-by-three room p q {v} t h place is long =
    assigned-by-three (λ o. xyz v.x o.y o.z) (λ o. xyz o.x v.y o.z) (λ o. xyz o.x o.y v.z) v (λ o. refl) p t (omega arith)
    ∙ (λ j. overwrite (place j) (is j ∷ []) t)

-- the last point, at `vtx2xyz.len() - 1`
pub last-assigned-by-three : (outside : Outside) (room q : ℕ) {v w : Point} (t : List Point) → q + 1 ≡ room
    → v ≡ w → length t ≡ room
    → (let p =
    minus outside (length t) 1 in assign_z (assign_y (assign_x t p v.x) p v.y) p v.z) ≡ overwrite q (w ∷ []) t
last-assigned-by-three outside room q t h is long =
    point-assigned-by-three room (minus outside (length t) 1) q t (omega arith) (minus_is outside (length t) 1 q (omega arith)) is long

-- Two loops, one in the other, that assign k rings of n points from place `at` on; and that push
-- them.
pub rings-assigned : (room k n at : ℕ) (vertex : ℕ → Direction → Point) (turn : ℕ → ℕ → List Point → List Point) (t₀ : List Point) → at + k * n ≤ room
    → ((g i : ℕ) → g < k → i < n → at + g * n + i < room → (t : List Point) → length t ≡ room
    → turn g i t ≡ overwrite (at + g * n + i) (vertex g (turn_of i n) ∷ []) t)
    → length t₀ ≡ room → turns 0 k (λ g t. turns 0 n (turn g) t) t₀ ≡ overwrite at (rings_points k vertex n) t₀
rings-assigned room k n at vertex turn t₀ h each long =
    fills k at n (λ g. ring_points (vertex g) n) _ t₀ (λ g. length-ring vertex n g)
    (λ g hg t as_long. fills n (at + g * n) 1 (λ i. vertex g (turn_of i n) ∷ []) (turn g) t (λ i. refl)
    (λ i hi t' still.
    let row = row_within g k n hg in
    let place : at + g * n + i ≡ at + g * n + i * 1 = omega arith in
    each g i hg hi (omega arith) t' (omega arith) ∙ ap (λ (p : ℕ). overwrite p (vertex g (turn_of i n) ∷ []) t') place))

pub rings-pushed : (k n : ℕ) (vertex : ℕ → Direction → Point) (turn : ℕ → ℕ → List Point → List Point) (t₀ : List Point)
    → ((g i : ℕ) → g < k → i < n → (t : List Point) → turn g i t ≡ t ++ (vertex g (turn_of i n) ∷ []))
    → turns 0 k (λ g t. turns 0 n (turn g) t) t₀ ≡ t₀ ++ rings_points k vertex n
rings-pushed k n vertex turn t₀ each =
    pushes k (λ g. ring_points (vertex g) n) _ t₀ (λ g hg t. pushes n (λ i. vertex g (turn_of i n) ∷ []) (turn g) t (λ i hi t'. each g i hg hi t'))

-- a part written behind those that begin the list
pub behind : (room k : ℕ) (new more t₀ : List Point) {t t' : List Point} → length t₀ ≡ room
    → (length t ≡ room → t' ≡ overwrite k more t)
    → t ≡ overwrite 0 new t₀ → length new ≡ k → t' ≡ overwrite 0 (new ++ more) t₀
behind room k new more t₀ {t} long second first sized =
    written_behind 0 new more t₀ first sized
    (second (ap length first ∙ length-overwrite 0 new t₀ ∙ long) ∙ ap (λ (p : ℕ). overwrite p more t) (sym (zero-add k)))
