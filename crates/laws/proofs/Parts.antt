-- The laws of a part of a list. Assumes nothing.
use Rattle.std.specs.Prelude.{◌≡◌, List, ◌++◌, ℕ, ◌+◌, ◌≤◌, ◌<◌, length, get_or, take, drop}
use Rattle.std.proofs.Common.{ap, ◌∙◌, arith, length-drop, length-take-le, take-add, drop-drop}
use Rattle.std.proofs.lemmas.List.{get_or-take, get_or-drop}
use Rattle.laws.specs.Parts.{part}

module _ {A : Type 0} where
  pub length_part : (at count : ℕ) (l : List A) → at + count ≤ length l → length (part at count l) ≡ count
  length_part at count l h = length-take-le count (drop at l) (omega (arith, length-drop at l))

  -- element k of a part
  pub get_or-part : (at count : ℕ) (l : List A) (k : ℕ) (d : A) → k < count
      → get_or (part at count l) k d ≡ get_or l (at + k) d
  get_or-part at count l k d h = get_or-take count (drop at l) k d h ∙ get_or-drop at l k d

  -- two parts, one after the other, are one
  pub part-more : (at m n : ℕ) (l : List A) → part at (m + n) l ≡ part at m l ++ part (at + m) n l
  part-more at m n l =
      take-add m n (drop at l) ∙ ap (λ (r : List A). take m (drop at l) ++ take n r) (drop-drop m at l)
