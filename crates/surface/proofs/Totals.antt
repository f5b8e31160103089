-- What a number that fits is. Assumes nothing.
use Rattle.std.proofs.Common.{◌≡◌, true, ℕ, ◌*◌, ◌^◌, ◌≤◌, leb-true, leb}
use Rattle.std.proofs.lemmas.Bool.{and_parts}
use Rattle.surface.specs.Limits.{fits}

pub fits-bounds : (total room : ℕ) → fits total room ≡ true → (total ≤ 2 ^ 28) × (3 * total ≤ room)
unfolding fits
fits-bounds total room h =
    let t = and_parts (leb total (2 ^ 28)) (leb (3 * total) room) h in
    (leb-true total (2 ^ 28) t.0, leb-true (3 * total) room t.1)
