-- What stands at a place of a list that is made of another. Assumes nothing.
use Rattle.std.specs.Prelude.{◌≡◌, List, [], ℕ, zero, suc, ◌+◌, ◌*◌, ◌<◌, get_or, drop}
use Rattle.std.proofs.Common.{◌∙◌, ap, arith}
use Rattle.std.proofs.lemmas.List.{get_or-take, get_or-drop}
use Rattle.std.specs.Simd.{first_chunks}

-- of the chunks of n elements that a list is cut into
pub get_or-chunk : {A : Type 0} (n count : ℕ) (list : List A) (i k : ℕ) (d : A) → i < count → k < n
    → get_or (get_or (first_chunks n count list) i []) k d ≡ get_or list (n * i + k) d
get_or-chunk n zero list i k d h l = absurd (omega arith)
get_or-chunk n (suc count) list zero k d h l =
    get_or-take n list k d l ∙ ap (λ (j : ℕ). get_or list j d) (omega arith)
get_or-chunk n (suc count) list (suc i) k d h l =
    get_or-chunk n count (drop n list) i k d (omega arith) l
    ∙ get_or-drop n list (n * i + k) d
    ∙ ap (λ (j : ℕ). get_or list j d) (omega arith)
