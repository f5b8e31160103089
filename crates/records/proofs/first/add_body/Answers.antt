-- What is lent as the curve is the front of `scratch` that was filled with its floats. Assumes
-- nothing.
use Rattle.std.proofs.Common.{◌≡◌, ap, ◌∙◌, List, map, ℕ, ◌+◌, ◌≤◌, arith, Float, length, replicate, take}
use Rattle.std.proofs.lemmas.List.{length-replicate}
use Rattle.std.specs.Float.{binary32}
use Rattle.std.specs.Float.Ieee.{of_bits}
use Rattle.std.proofs.Math.ListN.{length-map}
use Rattle.laws.specs.Overwrite.{overwrite}
use Rattle.laws.proofs.Lent.{part-written}
use Rattle.set_table.specs.Buffers.{buffers}
use Rattle.shared_set.specs.Additions.{taken}
use Rattle.shared_set.specs.Set.{added}
use Rattle.records.proofs.first.add_body.Goals as goal

abbrev floats : List ℕ → List Float
floats coordinates = map (of_bits binary32) coordinates

filled : (coordinates : List ℕ) (before after : List Float) → length coordinates ≤ length before
    → after ≡ overwrite 0 (floats coordinates) before → take (length coordinates) after ≡ floats coordinates
filled coordinates before after fits is =
    let count = length coordinates in
    let within : 0 + count ≤ length before = omega arith in
    ap (take count) is ∙ part-written 0 count (floats coordinates) before (length-map coordinates (of_bits binary32)) within

pub returns : goal.returns
returns c =
    let a = c.args in
    let s = buffers a.table.now a.vertices.now a.triangles.now in
    c.add.ensures
    ∙ ap (λ (l : List Float). added (taken a.description l) s)
    (filled a.coordinates.now (replicate 1536 (of_bits binary32 0)) c.fill_floats.new.out
    (omega (arith, c.requires, length-replicate 1536 (of_bits binary32 0))) c.fill_floats.ensures)
