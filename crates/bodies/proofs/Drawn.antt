-- What the code writes is the body's vertices where its scores are finite, and is not finite where
-- they are not: a NaN radius makes a NaN of every float. So the floats that were written say what
-- 23 asks. Assumes nothing.
use Rattle.std.proofs.Common.{◌≡◌, refl, sym, ap, ◌∙◌, Bool, true, false, ◌&&◌, List, ℕ, arith, Float}
use Rattle.float32.specs.Scan.{all_finite}
use Rattle.curve.specs.Segments.{vertices_in}
use Rattle.descriptions.specs.Refusals.{ShapePermitted}
use Rattle.descriptions.specs.declared.description.Description.{Description}
use Rattle.descriptions.specs.declared.description.Description.TheVariants.{SeamlessTorus}
use Rattle.descriptions.proofs.Shapes.{shape-bounds}
use Rattle.seamless_torus.specs.Polyloop3.{ends_finite, twist_of, drawn_radius, seamless_vertices}
use Rattle.seamless_torus.proofs.Marked.{marked-not-finite}
use Rattle.bodies.specs.Bodies.{vertices_of, twist_finite, floats_finite, twist_taken, marked, drawn_of}
use Rattle.bodies.proofs.Untwisted.{Untwisted, by-twist}

-- a body whose scores are finite is drawn as it is described
unmarked : (c : List Float) (d : Description) → twist_finite d c ≡ true → marked d c ≡ d
unmarked c =
    by-twist (λ (d : Description). twist_finite d c ≡ true → marked d c ≡ d) c
    (λ n r h. ap (λ (ends : Bool). SeamlessTorus n (drawn_radius r ends)) h)
    (λ d u h. u.whole)

pub drawn-whole : (d : Description) (c : List Float) → twist_finite d c ≡ true
    → drawn_of d c ≡ vertices_of (twist_taken d c) d c
drawn-whole d c h = ap (λ (x : Description). vertices_of (twist_taken d c) x c) (unmarked c d h)

-- a seamless torus, by whether its scores are finite
module _ (c : List Float) (n : ℕ) (r : Float) (shape : ShapePermitted (SeamlessTorus n r) (vertices_in c)) where
  abbrev drawn_with : Float → List Float
  drawn_with radius = seamless_vertices (twist_of (vertices_in c) c) n radius (vertices_in c) c

  seamless : (ends : Bool) → all_finite (drawn_with (drawn_radius r ends)) ≡ (ends && all_finite (drawn_with r))
  seamless true = refl
  seamless false =
      let b = shape-bounds (SeamlessTorus n r) (vertices_in c) shape in
      marked-not-finite (twist_of (vertices_in c) c) n (vertices_in c) c (omega arith) (omega arith)

-- and any body
abbrev DrawnFinite : List Float → Description → Type 0
DrawnFinite c d = ShapePermitted d (vertices_in c) → all_finite (drawn_of d c) ≡ floats_finite (twist_taken d c) d c

untwisted : (c : List Float) (d : Description) → Untwisted c d → DrawnFinite c d
untwisted c d u h =
    ap all_finite (drawn-whole d c u.finite)
    ∙ ap (λ (ends : Bool). ends && all_finite (vertices_of (twist_taken d c) d c)) (sym u.finite)

pub drawn-finite : (d : Description) (c : List Float) → ShapePermitted d (vertices_in c)
    → all_finite (drawn_of d c) ≡ floats_finite (twist_taken d c) d c
drawn-finite d c =
    by-twist (DrawnFinite c) c (λ n r h. seamless c n r h (ends_finite (vertices_in c) c)) (untwisted c) d
