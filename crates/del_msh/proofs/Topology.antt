-- The triangle lists of trimesh3_primitive.rs are document 01's. Assumes nothing.
use mathlib.Core.Path.{◌≡◌, refl, ap, ◌∙◌}
use mathlib.Core.List.{List, [], ◌∷◌, ◌++◌, append_assoc}
use Prim.Native.Nat.{ℕ, ◌+◌, ◌*◌, ◌/◌, ◌%◌, ◌≤◌, ◌<◌}
use native.Mathlib.Nat.{add-zero, mod-eq_of_lt, mul-div_cancel}
use native.Mathlib.Omega.{arith}
use borrow.Author.Tests.{eq-eqb}
use lib.ListN.{length, length-replicate}
use Rattle.laws.specs.Overwrite.{overwrite}
use Rattle.laws.proofs.Overwrite.{overwrite-append, length-overwrite}
use Rattle.laws.proofs.Overlaps.{overwrite-all}
use Rattle.laws.proofs.Products.{row_within}
use Rattle.laws.specs.Blocks.{blocks}
use Rattle.laws.proofs.Blocks.{length-blocks}
use Rattle.surface.specs.Triangles.{Triangle, triangle}
use Rattle.kinds.specs.Lists.{next, ring, layer_quad, layers, bottom_triangles, top_triangles}
use Rattle.kinds.specs.Lists.{closed_triangles, tube_quad, tube_triangles}
use Rattle.del_msh.specs.Vectors.{vec}
use Rattle.del_msh.specs.Arrays.{Outside, minus, quotient, remainder, zero_triangle, assign0, assign1, assign2}
use Rattle.del_msh.specs.Arrays.{first, second, third}
use Rattle.del_msh.specs.Trimesh3Primitive.{cylinder-open-end-set-topology, cylinder-closed-end-topology}
use Rattle.del_msh.proofs.Usize.{minus_is, quotient_is, remainder_is}
use Rattle.del_msh.proofs.Loops.{assigned-by-three, fills, pushes}

-- a triangle, and the two of a quad, pushed under other names of their indices
triangle-pushed : (t : List Triangle) {a b c a' b' c' : ℕ} → a ≡ a' → b ≡ b' → c ≡ c'
    → t ++ (triangle a b c ∷ []) ≡ t ++ (triangle a' b' c' ∷ [])
triangle-pushed t p q r = λ j. t ++ (triangle (p j) (q j) (r j) ∷ [])

pub quad-pushed : (t : List Triangle) {a b c d e f a' b' c' d' e' f' : ℕ} → a ≡ a' → b ≡ b' → c ≡ c' → d ≡ d'
    → e ≡ e' → f ≡ f'
    → (t ++ (triangle a b c ∷ [])) ++ (triangle d e f ∷ []) ≡ t ++ (triangle a' b' c' ∷ triangle d' e' f' ∷ [])
quad-pushed t p q r u v w =
    append_assoc t _ _ ∙ (λ j. t ++ (triangle (p j) (q j) (r j) ∷ triangle (u j) (v j) (w j) ∷ []))

-- `(ic + 0) % n` is ic
at-itself : (outside : Outside) (i n : ℕ) → i < n → remainder outside (i + 0) n ≡ i
at-itself outside i n h =
    remainder_is outside (i + 0) n (omega arith) ∙ ap (λ (k : ℕ). k % n) (add-zero i) ∙ mod-eq_of_lt h

-- `(ic + 1) % n`
after-it : (outside : Outside) (i n : ℕ) → i < n → remainder outside (i + 1) n ≡ next n i
after-it outside i n h = remainder_is outside (i + 1) n (omega arith)

pub closed-topology : (outside : Outside) (S n : ℕ) → cylinder-closed-end-topology outside S n ≡ closed_triangles n S
unfolding cylinder-closed-end-topology
closed-topology outside S n =
    let one_less : minus outside (S + 2) 1 ≡ S + 1 = minus_is outside (S + 2) 1 (S + 1) (omega arith) in
    let two-less : minus outside (S + 2) 2 ≡ S = minus_is outside (S + 2) 2 S refl in
    rw (one_less, two-less) (
    pushes n (λ i. triangle (n * (S + 1) + 1) (ring n S (next n i)) (ring n S i) ∷ []) _ _
    (λ i h t.
    let e = at-itself outside i n h in
    let f = after-it outside i n h in
    triangle-pushed t (omega arith) (omega arith) (omega arith))
    ∙ ap (λ (t : List Triangle). t ++ top_triangles n S)
    (pushes S (λ g. blocks n (λ i. layer_quad n g i)) _ _
    (λ g hg t. pushes n (layer_quad n g) _ t (λ i h t.
    let e = at-itself outside i n h in
    let f = after-it outside i n h in
    quad-pushed t (omega arith) (omega arith) (omega arith) (omega arith) (omega arith) (omega arith)))
    ∙ ap (λ (t : List Triangle). t ++ layers n S)
    (pushes n (λ i. triangle 0 (ring n 0 i) (ring n 0 (next n i)) ∷ []) _ []
    (λ i h t. let f = after-it outside i n h in triangle-pushed t (omega arith) (omega arith) (omega arith))))
    ∙ append_assoc (bottom_triangles n) (layers n S) (top_triangles n S))

-- a triangle assigned index by index, and the two of a quad
triangle-assigned : (i a b c : ℕ) (xs : List Triangle) → i < length xs
    → assign2 (assign1 (assign0 xs i a) i b) i c ≡ overwrite i (triangle a b c ∷ []) xs
triangle-assigned i a b c xs h = assigned-by-three (first a) (second b) (third c) (triangle a b c) same i xs h
  where
    same : (x : Triangle) → third c (second b (first a x)) ≡ triangle a b c
    same (triangle _ _ _) = refl

quad-assigned : (p q : ℕ) (xs : List Triangle) {a b c d e f a' b' c' d' e' f' : ℕ} → p + 1 < length xs → p ≡ q
    → a ≡ a' → b ≡ b' → c ≡ c' → d ≡ d' → e ≡ e' → f ≡ f'
    → assign2 (assign1 (assign0 (assign2 (assign1 (assign0 xs p a) p b) p c) (p + 1) d) (p + 1) e) (p + 1) f
    ≡ overwrite q (triangle a' b' c' ∷ triangle d' e' f' ∷ []) xs
quad-assigned p q xs {a} {b} {c} {d} {e} {f} h place u v w x y z =
    ap (λ (t : List Triangle). assign2 (assign1 (assign0 t (p + 1) d) (p + 1) e) (p + 1) f) (triangle-assigned p a b c xs (omega arith))
    ∙ triangle-assigned (p + 1) d e f (overwrite p (triangle a b c ∷ []) xs) (omega (arith, length-overwrite p (triangle a b c ∷ []) xs))
    ∙ overwrite-append p (triangle a b c ∷ []) (triangle d e f ∷ []) xs
    ∙ (λ j. overwrite (place j) (triangle (u j) (v j) (w j) ∷ triangle (x j) (y j) (z j) ∷ []) xs)

length-row : (n g : ℕ) → length (blocks n (tube_quad n g)) ≡ n * 2
length-row n g = length-blocks 2 n (tube_quad n g) (λ i h. refl)

pub open-topology : (outside : Outside) (n m : ℕ) → 1 ≤ m
    → cylinder-open-end-set-topology outside (vec zero_triangle (m * n * 2)) (m + 1) ≡ tube_triangles n m
unfolding cylinder-open-end-set-topology
open-topology outside n m h =
    let side : minus outside (m + 1) 1 ≡ m = minus_is outside (m + 1) 1 m refl in
    let sized : length (vec zero_triangle (m * n * 2)) ≡ m * n * 2 = length-replicate (m * n * 2) zero_triangle in
    let same : m * n * 2 ≡ n * (2 * m) = omega arith in
    let divided : m * n * 2 / (2 * m) ≡ n = ap (λ (k : ℕ). k / (2 * m)) same ∙ mul-div_cancel n (omega arith) in
    let round : quotient outside (length (vec zero_triangle (m * n * 2))) (2 * m) ≡ n =
    ap (λ (k : ℕ). quotient outside k (2 * m)) sized ∙ quotient_is outside (m * n * 2) (2 * m) (omega arith) ∙ divided in
    rw (side, round, eq-eqb (length (vec zero_triangle (m * n * 2))) (m * n * 2) sized) (
    fills m 0 (n * 2) (λ g. blocks n (tube_quad n g)) _ (vec zero_triangle (m * n * 2)) (length-row n)
    (λ g hg t long. fills n (0 + g * (n * 2)) 2 (tube_quad n g) _ t (λ i. refl)
    (λ i hi t' as_long.
    let row = row_within g m n hg in
    let f = after-it outside i n hi in
    quad-assigned ((g * n + i) * 2) (0 + g * (n * 2) + i * 2) t' (omega arith) (omega arith)
    refl (omega arith) (omega arith) refl (omega arith) (omega arith)))
    ∙ overwrite-all (tube_triangles n m) (vec zero_triangle (m * n * 2)) (length-blocks (n * 2) m (λ g. blocks n (tube_quad n g)) (λ g _. length-row n g) ∙ omega arith))
