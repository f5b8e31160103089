-- The corners of a quad and the two patterns of its six edges. Assumes nothing.
use Rattle.std.proofs.Common.{◌≡◌, refl, ap, ◌∙◌, ◌⊎◌, inl, inr, ⊎_elim, Bool, true, false, not}
use Rattle.std.proofs.Common.{List, [], ◌∷◌, ℕ, zero, suc, ◌+◌, ◌<◌, arith, get_or}
use Rattle.surface.specs.declared.quads.Split.{Split}
use Rattle.surface.specs.declared.quads.Split.TheVariants.{Capped, Torus, Tube, Ribbon}
use Rattle.laws.specs.Sums.{sum_below}

-- near or far along the curve, near or far round the ring
abbrev pub Corner : Type 0
Corner = Bool × Bool

abbrev a : Corner
a = (false, false)

abbrev b : Corner
b = (false, true)

abbrev d : Corner
d = (true, false)

abbrev e : Corner
e = (true, true)

-- the corner that a half turn of the quad puts in its place
abbrev pub opposite : Corner → Corner
opposite c = (not c.0, not c.1)

-- a step from one point of a chain to another: none, to the next, or back
pub data Step : Type 0 where
  none onward back : Step

abbrev pub step : Bool → Bool → Step
step false false = none
step false true = onward
step true false = back
step true true = none

pub below6 : (Q : ℕ → Type 0) → Q 0 → Q 1 → Q 2 → Q 3 → Q 4 → Q 5 → (s : ℕ) → s < 6 → Q s
below6 Q q0 q1 q2 q3 q4 q5 zero h = q0
below6 Q q0 q1 q2 q3 q4 q5 (suc zero) h = q1
below6 Q q0 q1 q2 q3 q4 q5 (suc (suc zero)) h = q2
below6 Q q0 q1 q2 q3 q4 q5 (suc (suc (suc zero))) h = q3
below6 Q q0 q1 q2 q3 q4 q5 (suc (suc (suc (suc zero)))) h = q4
below6 Q q0 q1 q2 q3 q4 q5 (suc (suc (suc (suc (suc zero))))) h = q5
below6 Q q0 q1 q2 q3 q4 q5 (suc (suc (suc (suc (suc (suc s)))))) h = absurd (omega arith)

-- The six edges of a quad, by the corners that they leave and reach. An edge's steps tell its
-- place; a half turn of the quad carries each edge to its mate, which is how its reverse lies in
-- the quad on its other side.
pub record Pattern : Type 0 where
  pub tail : ℕ → Corner
  pub head : ℕ → Corner
  pub mate : ℕ → ℕ
  pub place_of : Step → Step → ℕ
  pub known : (s : ℕ) → s < 6 → place_of (step (tail s).0 (head s).0) (step (tail s).1 (head s).1) ≡ s
  pub mate-lt : (s : ℕ) → s < 6 → mate s < 6
  pub mate-tail : (s : ℕ) → s < 6 → tail (mate s) ≡ opposite (tail s)
  pub mate-head : (s : ℕ) → s < 6 → head (mate s) ≡ opposite (head s)
  pub crosses : (s : ℕ) → s < 6 → ((head s).0 ≡ not (tail s).0) ⊎ ((head s).1 ≡ not (tail s).1)
  pub sides : (f g : Bool → Bool → ℕ) → f false true ≡ 0 → f true false ≡ 0 → g false true ≡ 0 → g true false ≡ 0
      → sum_below 6 (λ s. f (tail s).0 (head s).0 + g (tail s).1 (head s).1) ≡ (f false false + f true true) + (g false false + g true true)

-- triangles (a, b, d), (e, d, b): torus, and ribbon, whose second triangle is that one begun at b
abbrev forward : Pattern
forward = record {
  tail = λ s. get_or tails s a;
  head = λ s. get_or heads s a;
  mate = λ s. get_or mates s 0;
  place_of = place_of;
  known = below6 (λ s. place_of (step (get_or tails s a).0 (get_or heads s a).0) (step (get_or tails s a).1 (get_or heads s a).1) ≡ s) refl refl refl refl refl refl;
  mate-lt = below6 (λ s. get_or mates s 0 < 6) (omega arith) (omega arith) (omega arith) (omega arith) (omega arith) (omega arith);
  mate-tail =
      below6 (λ s. get_or tails (get_or mates s 0) a ≡ opposite (get_or tails s a)) refl refl refl refl refl refl;
  mate-head =
      below6 (λ s. get_or heads (get_or mates s 0) a ≡ opposite (get_or heads s a)) refl refl refl refl refl refl;
  crosses = below6 (λ s. ((get_or heads s a).0 ≡ not (get_or tails s a).0) ⊎ ((get_or heads s a).1 ≡ not (get_or tails s a).1))
      (inr refl) (inl refl) (inl refl) (inr refl) (inl refl) (inl refl);
  sides = λ f g p q u v. omega arith;
}
  where
    tails : List Corner
    tails = a ∷ b ∷ d ∷ e ∷ d ∷ b ∷ []

    heads : List Corner
    heads = b ∷ d ∷ a ∷ d ∷ b ∷ e ∷ []

    mates : List ℕ
    mates = 3 ∷ 4 ∷ 5 ∷ 0 ∷ 1 ∷ 2 ∷ []

    place_of : Step → Step → ℕ
    place_of none onward = 0
    place_of onward back = 1
    place_of back none = 2
    place_of none back = 3
    place_of back onward = 4
    place_of onward none = 5
    place_of none none = 6
    place_of onward onward = 6
    place_of back back = 6

-- ---- the same, seen in a mirror: i and i + 1 exchanged

abbrev mirror : Corner → Corner
mirror c = (c.0, not c.1)

abbrev turned : Step → Step
turned none = none
turned onward = back
turned back = onward

pub turned-step : (x y : Bool) → turned (step (not x) (not y)) ≡ step x y
turned-step false false = refl
turned-step false true = refl
turned-step true false = refl
turned-step true true = refl

abbrev mirrored : Pattern → Pattern
mirrored P = record {
  tail = λ s. mirror (P.tail s);
  head = λ s. mirror (P.head s);
  mate = P.mate;
  place_of = λ r c. P.place_of r (turned c);
  known = λ s h. ap (P.place_of (step (P.tail s).0 (P.head s).0)) (turned-step (P.tail s).1 (P.head s).1) ∙ P.known s h;
  mate-lt = P.mate-lt;
  mate-tail = λ s h. ap mirror (P.mate-tail s h);
  mate-head = λ s h. ap mirror (P.mate-head s h);
  crosses = λ s h. ⊎_elim (λ p. inl p) (λ p. inr (ap not p)) (P.crosses s h);
  sides = λ f g p q u v. omega (arith, P.sides f (λ x y. g (not x) (not y)) p q v u);
}

-- torus and ribbon turn one way, tube and capped body the other
abbrev pub pattern_of : Split → Pattern
pattern_of Capped = mirrored forward
pattern_of Torus = forward
pattern_of Tube = mirrored forward
pattern_of Ribbon = forward
