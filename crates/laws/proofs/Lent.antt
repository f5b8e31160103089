-- A part of a slice that is lent on, `&mut s[a..]` or `&mut s[a..e]`, and what the whole holds
-- when it is back: "The body's own stretch of the vertex buffer is lent on to be filled"
-- (document 01, 'The shared set'). Assumes nothing.
use Rattle.std.specs.Prelude.{◌≡◌, refl, List, [], ◌∷◌, ◌++◌, ℕ, zero, suc, ◌+◌, ◌-◌, ◌≤◌, length, take, drop}
use Rattle.std.proofs.Common.{sym, ap, ◌∙◌, append-nil, zero-add, suc-add, add-zero, not-suc-le-zero}
use Rattle.std.proofs.Common.{le_of_suc-le-suc, arith, length-drop, drop_of_length-le}
use Rattle.std.proofs.lemmas.List.{take_rest}
use borrow.Rule.Slice.PartMut.{put_mid, post_of}
use Rattle.laws.specs.Parts.{part}
use Rattle.laws.specs.Overwrite.{overwrite}
use Rattle.laws.proofs.Overlaps.{overwrite-front}

module _ {X : Type 0} where
  -- a write at place b of the part that begins at place a
  pub overwrite-part : (a b : ℕ) (new old : List X) → take a old ++ overwrite b new (drop a old) ≡ overwrite (a + b) new old
  overwrite-part zero b new old = ap (λ (k : ℕ). overwrite k new old) (sym (zero-add b))
  overwrite-part (suc a) b new [] = refl
  overwrite-part (suc a) b new (x ∷ old) =
      ap (λ (r : List X). x ∷ r) (overwrite-part a b new old) ∙ ap (λ (k : ℕ). overwrite k new (x ∷ old)) (sym (suc-add a b))

  pub length_rest : (a : ℕ) (xs : List X) → length (part a (length xs - a) xs) ≡ length xs - a
  length_rest a xs = ap length (take_rest xs a) ∙ length-drop a xs

  -- `&mut s[a..]`, at whose front a list was written
  pub lent-from : (a : ℕ) (new xs : List X) {ys : List X} → ys ≡ overwrite 0 new (part a (length xs - a) xs)
      → put_mid a (length xs - a) xs ys ≡ overwrite a new xs
  lent-from a new xs {ys} e =
      ap (λ (l : List X). take a xs ++ (l ++ post_of a (length xs - a) xs)) (e ∙ ap (λ (l : List X). overwrite 0 new l) (take_rest xs a))
      ∙ ap (λ (l : List X). take a xs ++ (overwrite 0 new (drop a xs) ++ l))
      (drop_of_length-le (drop a xs) {i = length xs - a} (omega (arith, length-drop a xs)))
      ∙ ap (λ (l : List X). take a xs ++ l) (append-nil (overwrite 0 new (drop a xs)))
      ∙ overwrite-part a 0 new xs
      ∙ ap (λ (k : ℕ). overwrite k new xs) (add-zero a)

  -- `&mut s[a..e]`, all of whose k elements were written
  pub lent-part : (a k : ℕ) (ys xs : List X) → length ys ≡ k → a + k ≤ length xs → put_mid a k xs ys ≡ overwrite a ys xs
  lent-part a k ys xs sized h =
      ap (λ (i : ℕ). take a xs ++ (ys ++ drop i (drop a xs))) (sym sized)
      ∙ ap (λ (l : List X). take a xs ++ l) (sym (overwrite-front ys (drop a xs) (omega (arith, length-drop a xs, sized))))
      ∙ overwrite-part a 0 ys xs
      ∙ ap (λ (i : ℕ). overwrite i ys xs) (add-zero a)

  front-written : (new old : List X) → length new ≤ length old → take (length new) (overwrite 0 new old) ≡ new
  front-written [] old h = refl
  front-written (y ∷ new) [] h = absurd (not-suc-le-zero h)
  front-written (y ∷ new) (x ∷ old) h = ap (λ (r : List X). y ∷ r) (front-written new old (le_of_suc-le-suc h))

  drop-written : (a : ℕ) (new old : List X) → drop a (overwrite a new old) ≡ overwrite 0 new (drop a old)
  drop-written zero new old = refl
  drop-written (suc a) new [] = refl
  drop-written (suc a) new (x ∷ old) = drop-written a new old

  -- `&s[a..e]` of k elements, once k elements were written there
  pub part-written : (a k : ℕ) (new old : List X) → length new ≡ k → a + k ≤ length old
      → part a k (overwrite a new old) ≡ new
  part-written a k new old sized h =
      ap (λ (l : List X). take k l) (drop-written a new old)
      ∙ ap (λ (i : ℕ). take i (overwrite 0 new (drop a old))) (sym sized)
      ∙ front-written new (drop a old) (omega (arith, length-drop a old, sized))
