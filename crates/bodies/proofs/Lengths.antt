-- How many floats the vertices of a body are: three for each vertex of its counts, because each
-- kind's parts are that long. Assumes nothing.
use Rattle.std.proofs.Common.{◌≡◌, sym, ap, subst, ◌∙◌, true, List, ℕ, ◌+◌, ◌-◌, ◌*◌, ◌≤◌, arith, Float}
use Rattle.std.proofs.Common.{length}
use Rattle.kinds.specs.Kinds.{vertex_count}
use Rattle.curve.specs.Segments.{vertices_in}
use Rattle.descriptions.specs.Descriptions.{topology_of}
use Rattle.descriptions.specs.Refusals.{ShapePermitted}
use Rattle.descriptions.specs.declared.description.Description.{Description}
use Rattle.descriptions.specs.declared.description.Description.TheVariants.{Ribbon, Tube, Capsule}
use Rattle.descriptions.specs.declared.description.Description.TheVariants.{Torus, ClosedCylinder, SeamlessTorus}
use Rattle.descriptions.proofs.Shapes.{shape-bounds}
use Rattle.ring_writers.proofs.Lengths.{length-cylinder}
use Rattle.swept_bodies.proofs.Lengths.{length-ribbon, length-tube, length-capsule, length-torus}
use Rattle.twists.specs.declared.twist.Twist.{Twist}
use Rattle.seamless_torus.proofs.Lengths.{length-seamless}
use Rattle.bodies.specs.Bodies.{vertices_of, marked, twist_taken, drawn_of, drawable}
use Rattle.bodies.proofs.Drawable.{drawn-shape, drawn-room}
use Rattle.bodies.proofs.Untwisted.{Untwisted, by-twist}

-- "Vertices n(S + 1) + 2" and the others: the list has three floats for each vertex that the
-- counts promise, whatever its twist
pub length-vertices : (k : Twist) (d : Description) (c : List Float) → ShapePermitted d (vertices_in c)
    → length (vertices_of k d c) ≡ 3 * vertex_count (topology_of d (vertices_in c))
length-vertices k (Ribbon w) c h = omega (arith, length-ribbon w (vertices_in c - 1) c)
length-vertices k (Tube n r) c h = omega (arith, length-tube n r (vertices_in c - 1) c)
length-vertices k (Capsule n L r) c h =
    let m = vertices_in c - 1 in
    let b = shape-bounds (Capsule n L r) (vertices_in c) h in
    let rings : 2 * L + m - 2 + 1 ≡ 2 * L + m - 1 = omega arith in
    omega (arith, length-capsule n L r m c b.1.0, ap (λ (k : ℕ). n * k) rings)
length-vertices k (Torus n r) c h = omega (arith, length-torus n r (vertices_in c) c)
length-vertices k (ClosedCylinder n S centred r l) c h = omega (arith, length-cylinder r l n S centred)
length-vertices k (SeamlessTorus n r) c h = omega (arith, length-seamless k n r (vertices_in c) c)

-- The code's list is as long: what marks a body without finite scores is a radius, and no length
-- goes by it.
abbrev DrawnLength : List Float → Description → Type 0
DrawnLength c d =
    ShapePermitted d (vertices_in c) → length (drawn_of d c) ≡ 3 * vertex_count (topology_of d (vertices_in c))

pub length-drawn : (d : Description) (c : List Float) → ShapePermitted d (vertices_in c)
    → length (drawn_of d c) ≡ 3 * vertex_count (topology_of d (vertices_in c))
length-drawn d c = by-twist (DrawnLength c) c seamless untwisted d where
  seamless : (n : ℕ) (r : Float) → DrawnLength c (SeamlessTorus n r)
  seamless n r = length-vertices (twist_taken (SeamlessTorus n r) c) (marked (SeamlessTorus n r) c) c

  untwisted : (d : Description) → Untwisted c d → DrawnLength c d
  untwisted d u h =
      ap (λ (x : Description). length (vertices_of (twist_taken d c) x c)) u.whole
      ∙ length-vertices (twist_taken d c) d c h

-- so nothing of what is drawn is cut at the buffer's end
pub nothing-cut : (d : Description) (c : List Float) (room : ℕ) → drawable d c room ≡ true
    → length (drawn_of d c) ≤ room
nothing-cut d c room h =
    subst (λ (k : ℕ). k ≤ room) (sym (length-drawn d c (drawn-shape d c room h))) (drawn-room d c room h)
