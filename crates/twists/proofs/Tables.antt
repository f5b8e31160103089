-- A table of floats that a loop fills, an entry a turn. Assumes nothing.
use Rattle.std.proofs.Common.{◌≡◌, sym, subst, ⊎_elim, ℕ, ◌+◌, ◌<◌, ◌≤◌, eq-or-lt_of_le, List, length, get_or, set, get_or-set_same, get_or-set_other, Float, arith}
use Rattle.std.specs.Float.{nan}
use Rattle.std.proofs.lemmas.List.Edits.{fill_by_more}
use Rattle.twists.specs.Eighth.{Tabulates}

-- after one more turn
pub Tabulates-more : (f : ℕ → Float) (i : ℕ) (list : List Float) {v : Float} → i < length list → Tabulates i f list
    → v ≡ f i → Tabulates (i + 1) f (set list i v)
Tabulates-more f i list h before is =
    subst (λ (v : Float). Tabulates (i + 1) f (set list i v)) (sym is) (fill_by_more f list i nan h before)

-- the same of a property of each entry
pub each-more : (P : ℕ → Float → Type 0) (j : ℕ) (list : List Float) {v : Float} → j < length list
    → ((k : ℕ) → k < j → P k (get_or list k nan)) → P j v
    → (k : ℕ) → k < j + 1 → P k (get_or (set list j v) k nan)
each-more P j list {v} h before this k l =
    let below : k ≤ j = omega arith in
    ⊎_elim same earlier (eq-or-lt_of_le below)
  where
    same : k ≡ j → P k (get_or (set list j v) k nan)
    same e = rw e (subst (P j) (sym (get_or-set_same list j v nan h)) this)

    earlier : k < j → P k (get_or (set list j v) k nan)
    earlier g = subst (P k) (sym (get_or-set_other list j k v nan (λ e. omega arith))) (before k g)
