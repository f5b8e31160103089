-- A body that has room, written to its own stretch of the vertex buffer and scanned there: nothing
-- of it is cut, the scan answers what 23 asks of the body, and what is left is the body's vertices
-- or as many zeros, because what is written is the body's where the scan finds it finite, and as
-- long where not. Assumes nothing.
use Rattle.std.proofs.Common.{◌≡◌, sym, ap, ◌∙◌, Bool, true, false, cond, List, ℕ, ◌+◌, ◌*◌, ◌≤◌, arith, Float, length}
use Rattle.std.proofs.lemmas.Bool.{and_parts}
use Rattle.laws.specs.Parts.{part}
use Rattle.laws.specs.Overwrite.{overwrite}
use Rattle.laws.proofs.Overlaps.{overwrite-cover}
use Rattle.laws.proofs.Lent.{part-written}
use Rattle.float32.specs.Scan.{all_finite}
use Rattle.float32.specs.Zeros.{zeros}
use Rattle.float32.proofs.ZeroCounts.{length-zeros}
use Rattle.kinds.specs.Kinds.{vertex_count}
use Rattle.kinds.specs.declared.topology.Topology.{Topology}
use Rattle.curve.specs.Segments.{vertices_in}
use Rattle.descriptions.specs.Descriptions.{topology_of}
use Rattle.descriptions.specs.Refusals.{ShapePermitted}
use Rattle.descriptions.specs.declared.description.Description.{Description}
use Rattle.bodies.specs.Bodies.{vertices_of, twist_finite, floats_finite, twist_taken, drawn_of}
use Rattle.bodies.proofs.Lengths.{length-vertices, length-drawn}
use Rattle.bodies.proofs.Drawn.{drawn-whole, drawn-finite}

module _ (d : Description) (c : List Float) (body : Topology) (first : ℕ) (old : List Float) (shape : ShapePermitted d (vertices_in c))
    (same : body ≡ topology_of d (vertices_in c)) (room : 3 * (first + vertex_count body) ≤ length old) where
  abbrev at : ℕ
  at = 3 * first

  abbrev size : ℕ
  size = 3 * vertex_count body

  -- what is written, and the body's vertices
  abbrev list : List Float
  list = drawn_of d c

  abbrev alone : List Float
  alone = vertices_of (twist_taken d c) d c

  -- what 23 asks
  abbrev fine : Bool
  fine = floats_finite (twist_taken d c) d c

  -- what the scan leaves, by its answer
  abbrev left : Bool → List Float → List Float → List Float
  left finite drawn held = overwrite at (cond finite drawn (zeros (length drawn))) held

  stands : part at size (overwrite at list old) ≡ list
  stands =
      let sized : length list ≡ size = omega (arith, length-drawn d c shape, ap vertex_count same) in
      part-written at size list old sized (omega arith)

  pub scanned : {finite : Bool} → finite ≡ all_finite (part at size (overwrite at list old)) → finite ≡ fine
  scanned h = h ∙ ap all_finite stands ∙ drawn-finite d c shape

  covered : (finite : Bool) → left finite list (overwrite at list old) ≡ left finite list old
  covered true = overwrite-cover at list list old (omega arith)
  covered false = overwrite-cover at list (zeros (length list)) old (omega (arith, length-zeros (length list)))

  pub scan-leaves : (finite : Bool) → left finite (part at size (overwrite at list old)) (overwrite at list old)
      ≡ left finite list old
  scan-leaves finite = ap (λ (l : List Float). left finite l (overwrite at list old)) stands ∙ covered finite

  -- the same by the body's own vertices
  same_left : (finite : Bool) → finite ≡ fine → left finite list old ≡ left finite alone old
  same_left true h =
      ap (λ (l : List Float). overwrite at l old)
      (drawn-whole d c (and_parts (twist_finite d c) (all_finite alone) (sym h)).0)
  same_left false h =
      ap (λ (n : ℕ). overwrite at (zeros n) old)
      (length-drawn d c shape ∙ sym (length-vertices (twist_taken d c) d c shape))

  pub scan-leaves-alone : (finite : Bool) → finite ≡ fine
      → left finite (part at size (overwrite at list old)) (overwrite at list old) ≡ left finite alone old
  scan-leaves-alone finite h = scan-leaves finite ∙ same_left finite h
