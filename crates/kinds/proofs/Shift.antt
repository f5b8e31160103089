-- A body's first vertex added to lists made of quads and of fans. Assumes nothing.
use Rattle.std.proofs.Common.{◌≡◌, refl, ap, ◌∙◌, List, [], ◌∷◌, ◌++◌, ℕ, zero, suc, ◌+◌}
use Rattle.laws.specs.Blocks.{blocks}
use Rattle.laws.proofs.Blocks.{blocks-cong}
use Rattle.surface.specs.Triangles.{Triangle, triangle, shift}
use Rattle.surface.specs.Quads.{quad_of}
use Rattle.surface.specs.declared.quads.Split.{Split}
use Rattle.surface.specs.declared.quads.Split.TheVariants.{Capped, Torus, Tube, Ribbon}

pub shift-append : (first : ℕ) (xs ys : List Triangle) → shift first (xs ++ ys) ≡ shift first xs ++ shift first ys
shift-append first [] ys = refl
shift-append first (triangle a b c ∷ xs) ys = rw (shift-append first xs ys)

shift-blocks : (first n : ℕ) (f : ℕ → List Triangle) → shift first (blocks n f) ≡ blocks n (λ k. shift first (f k))
shift-blocks first zero f = refl
shift-blocks first (suc n) f =
    shift-append first (blocks n f) (f n)
    ∙ ap (λ (l : List Triangle). l ++ shift first (f n)) (shift-blocks first n f)

shift-quad : (split : Split) (first a b d e : ℕ)
    → shift first (quad_of split a b d e) ≡ quad_of split (first + a) (first + b) (first + d) (first + e)
shift-quad Capped first a b d e = refl
shift-quad Torus first a b d e = refl
shift-quad Tube first a b d e = refl
shift-quad Ribbon first a b d e = refl

-- Rows of quads, by the numbers of their corners: local ones, and those with the first vertex
-- added.
pub shift-quads : (split : Split) (first m n : ℕ) (a b d e a' b' d' e' : ℕ → ℕ → ℕ)
    → ((g i : ℕ) → first + a g i ≡ a' g i) → ((g i : ℕ) → first + b g i ≡ b' g i) → ((g i : ℕ) → first + d g i ≡ d' g i) → ((g i : ℕ) → first + e g i ≡ e' g i)
    → shift first (blocks m (λ g. blocks n (λ i. quad_of split (a g i) (b g i) (d g i) (e g i))))
    ≡ blocks m (λ g. blocks n (λ i. quad_of split (a' g i) (b' g i) (d' g i) (e' g i)))
shift-quads split first m n a b d e a' b' d' e' ea eb ed ee =
    shift-blocks first m _
    ∙ blocks-cong m _ _ (λ g hg.
    shift-blocks first n _
    ∙ blocks-cong n _ _ (λ i hi. shift-quad split first (a g i) (b g i) (d g i) (e g i) ∙ (λ j. quad_of split (ea g i j) (eb g i j) (ed g i j) (ee g i j))))

-- The same of a fan.
pub shift-fan : (first n p p' : ℕ) (x y x' y' : ℕ → ℕ) → first + p ≡ p' → ((i : ℕ) → first + x i ≡ x' i)
    → ((i : ℕ) → first + y i ≡ y' i)
    → shift first (blocks n (λ i. triangle p (x i) (y i) ∷ [])) ≡ blocks n (λ i. triangle p' (x' i) (y' i) ∷ [])
shift-fan first n p p' x y x' y' ep ex ey =
    shift-blocks first n _ ∙ blocks-cong n _ _ (λ i hi. λ j. triangle (ep j) (ex i j) (ey i j) ∷ [])
