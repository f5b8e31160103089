-- The numbers of a list of triangles, piece by piece. Assumes nothing.
use Rattle.std.proofs.Common.{◌-◌, ◌*◌, ◌≡◌, refl, sym, ap, ◌∙◌, List, [], ◌∷◌, ◌++◌, ℕ, zero, suc, ◌+◌}
use Rattle.std.proofs.Common.{zero-add, length}
use Rattle.laws.specs.Overwrite.{overwrite}
use Rattle.laws.specs.Blocks.{blocks}
use Rattle.laws.proofs.Blocks.{one_more, all-written}
use Rattle.laws.proofs.Lent.{lent-from}
use Rattle.laws.specs.Parts.{part}
use borrow.Rule.Slice.PartMut.{put_mid}
use Rattle.surface.specs.Triangles.{Triangle, triangle, flatten}

pub flatten-append : (a b : List Triangle) → flatten (a ++ b) ≡ flatten a ++ flatten b
flatten-append [] b = refl
flatten-append (triangle x y z ∷ a) b = ap (λ (l : List ℕ). x ∷ y ∷ z ∷ l) (flatten-append a b)

-- the numbers of each block
abbrev pub numbers : (ℕ → List Triangle) → ℕ → List ℕ
numbers f k = flatten (f k)

pub flatten-blocks : (n : ℕ) (f : ℕ → List Triangle) → flatten (blocks n f) ≡ blocks n (numbers f)
flatten-blocks zero f = refl
flatten-blocks (suc n) f =
    flatten-append (blocks n f) (f n) ∙ ap (λ (l : List ℕ). l ++ flatten (f n)) (flatten-blocks n f)

-- A turn of a loop that writes the c numbers of block after block: it lends what lies behind the
-- blocks before, at whose front those of block i are written.
pub turn : (c i : ℕ) (f : ℕ → List Triangle) (t₀ : List ℕ) {t ys v : List ℕ} {p : ℕ}
    → ((k : ℕ) → length (numbers f k) ≡ c) → t ≡ overwrite 0 (blocks i (numbers f)) t₀ → p ≡ i * c
    → ys ≡ overwrite 0 v (part p (length t - p) t) → v ≡ numbers f i
    → put_mid p (length t - p) t ys ≡ overwrite 0 (blocks (i + 1) (numbers f)) t₀
turn c i f t₀ {t = t} {v = v} {p = p} sized before place written is =
    one_more 0 i c (numbers f) t₀ (λ k _. sized k) before (place ∙ sym (zero-add (i * c))) (lent-from p v t written) is

-- what such a loop leaves, once its count is n
pub blocks-written : (f : ℕ → List Triangle) (t₀ : List ℕ) {t : List ℕ} {i n : ℕ}
    → t ≡ overwrite 0 (blocks i (numbers f)) t₀ → i ≡ n → t ≡ overwrite 0 (flatten (blocks n f)) t₀
blocks-written f t₀ {t} {i} {n} so e =
    all-written 0 (numbers f) t₀ so e ∙ ap (λ (l : List ℕ). overwrite 0 l t₀) (sym (flatten-blocks n f))

-- three lists of triangles, as they are written one after the other
pub flatten-three : (a b c : List Triangle) → flatten a ++ (flatten b ++ flatten c) ≡ flatten (a ++ (b ++ c))
flatten-three a b c =
    ap (λ (r : List ℕ). flatten a ++ r) (sym (flatten-append b c)) ∙ sym (flatten-append a (b ++ c))
