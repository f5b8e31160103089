-- The scan by blocks of 16: what 16 sums tell of the blocks, and that the blocks and the floats
-- after them are all floats. Assumes nothing.
use Rattle.std.proofs.Common.{◌≡◌, refl, sym, ap, ◌∙◌, Bool, true, ◌&&◌, ℕ, zero, suc, ◌+◌, ◌-◌, ◌*◌, ◌/◌, ◌%◌, ◌<◌, ◌≤◌, List, [], length, drop, get_or, ⊎_elim, Float, arith}
use Rattle.std.proofs.lemmas.Bool.{cases_lt, and_parts}
use Rattle.std.proofs.lemmas.List.{get_or-drop, length-drop}
use Rattle.std.specs.Cmp.{both_ways}
use Rattle.std.specs.Float.{nan, binary32}
use Rattle.std.specs.Float.Ieee.{eq, of_bits}
use Rattle.std.specs.Float.Ieee.Scale.{finite}
use Rattle.std.specs.Simd.{first_chunks}
use Rattle.laws.specs.Every.{every}
use Rattle.std.specs.Cmp.Derive.{both_true as and_true}
use Rattle.laws.proofs.Places.{get_or-chunk}
use Rattle.laws.proofs.Every.{every-each, each-every, every-cong}
use Rattle.float32.specs.Scan.{all_finite}
use Rattle.float32.specs.Lanes.{all_zeros, blocks_finite}
use Rattle.float32.proofs.ZeroSums.{Tells, told}

-- all sums are zeros where all lanes are finite
pub lanes-told : (lane : ℕ → Bool) (sums : List Float) → length sums ≡ 16
    → ((k : ℕ) → k < 16 → Tells (lane k) (get_or sums k nan)) → all_zeros sums ≡ every 16 lane
unfolding all_zeros
lanes-told lane sums long tell =
    ap (λ (n : ℕ). every n is-zero) long ∙ every-cong 16 is-zero lane (λ k h. told (lane k) (get_or sums k nan) (tell k h))
  where
    is-zero : ℕ → Bool
    is-zero k = eq (get_or sums k nan) (of_bits binary32 0)

-- how many blocks there are
length-blocks : (m : ℕ) (values : List Float) → length (first_chunks 16 m values) ≡ m
length-blocks zero values = refl
length-blocks (suc m) values = ap suc (length-blocks m (drop 16 values))

module _ (values : List Float) where
  abbrev n : ℕ
  n = length values

  abbrev m : ℕ
  m = n / 16

  abbrev blocks : List (List Float)
  blocks = first_chunks 16 m values

  abbrev rest : List Float
  rest = drop (m * 16) values

  parts : all_finite values ≡ true → (all_finite rest ≡ true) × (blocks_finite blocks ≡ true)
  unfolding all_finite blocks_finite
  parts all = (
    each-every (length rest) (λ i. finite (get_or rest i nan))
        (λ i h. ap finite (get_or-drop (m * 16) values i nan) ∙ each (m * 16 + i) (omega (arith, length-drop (m * 16) values))),
    each-every 16 (λ k. every (length blocks) (λ j. finite (get_or (get_or blocks j []) k nan)))
        (λ k l. each-every (length blocks) (λ j. finite (get_or (get_or blocks j []) k nan))
        (λ j h.
        let below : j < m = omega (arith, length-blocks m values) in
        ap finite (get_or-chunk 16 m values j k nan below l) ∙ each (16 * j + k) (omega arith))),
  )
    where
      each : (i : ℕ) → i < n → finite (get_or values i nan) ≡ true
      each = every-each n (λ i. finite (get_or values i nan)) all

  whole : all_finite rest ≡ true → blocks_finite blocks ≡ true → all_finite values ≡ true
  unfolding all_finite blocks_finite
  whole after before =
      each-every n (λ i. finite (get_or values i nan)) (λ i h. ⊎_elim (in-block i) (in-rest i h) (cases_lt i (m * 16)))
    where
      in-block : (i : ℕ) → i < m * 16 → finite (get_or values i nan) ≡ true
      in-block i h =
          let j : i / 16 < m = omega arith in
          let k : i % 16 < 16 = omega arith in
          let at : i ≡ 16 * (i / 16) + i % 16 = omega arith in
          ap (λ (p : ℕ). finite (get_or values p nan)) at
          ∙ ap finite (sym (get_or-chunk 16 m values (i / 16) (i % 16) nan j k))
          ∙ every-each (length blocks) (λ j. finite (get_or (get_or blocks j []) (i % 16) nan))
          (every-each 16 (λ k. every (length blocks) (λ j. finite (get_or (get_or blocks j []) k nan))) before (i % 16) k)
          (i / 16) (omega (arith, length-blocks m values))

      in-rest : (i : ℕ) → i < n → m * 16 ≤ i → finite (get_or values i nan) ≡ true
      in-rest i h l =
          let at : i ≡ m * 16 + (i - m * 16) = omega arith in
          ap (λ (p : ℕ). finite (get_or values p nan)) at
          ∙ ap finite (sym (get_or-drop (m * 16) values (i - m * 16) nan))
          ∙ every-each (length rest) (λ p. finite (get_or rest p nan)) after (i - m * 16)
          (omega (arith, length-drop (m * 16) values))

  parts-decide : all_finite rest && blocks_finite blocks ≡ all_finite values
  parts-decide =
      both_ways (all_finite rest && blocks_finite blocks) (all_finite values)
      (λ both. let each = and_parts (all_finite rest) (blocks_finite blocks) both in whole each.0 each.1)
      (λ all. let each = parts all in and_true each.0 each.1)

  -- the same of what `as_chunks` gave, and of the answers that the code has of it
  pub scanned : {front back : Bool} {before : List (List Float)} {after : List Float} → before ≡ blocks → after ≡ rest
      → front ≡ blocks_finite before → back ≡ all_finite after → back && front ≡ all_finite values
  scanned same-blocks same-rest front-is back-is =
      (λ i. (back-is ∙ ap all_finite same-rest) i && (front-is ∙ ap blocks_finite same-blocks) i) ∙ parts-decide
