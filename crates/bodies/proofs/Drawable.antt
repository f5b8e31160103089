-- Which bodies can be drawn, by what the tests of the code tell. Assumes nothing.
use Rattle.std.proofs.Common.{◌≡◌, refl, sym, ap, ◌∙◌, Bool, true, false, cond, ◌&&◌, List, [], ◌∷◌, ℕ, ◌*◌, ◌≤◌}
use Rattle.std.proofs.Common.{arith, eqb, Float, length, ◌%◌}
use Rattle.std.proofs.lemmas.Bool.{and_parts}
use Rattle.surface.specs.Limits.{fits}
use Rattle.surface.proofs.Totals.{fits-bounds}
use Rattle.kinds.specs.Kinds.{vertex_count}
use Rattle.kinds.specs.declared.topology.Topology.{Topology}
use Rattle.curve.specs.Segments.{vertices_in}
use Rattle.answers.specs.Answers.{Answer, test, is_accepted, refused, accepted, first_of}
use Rattle.answers.proofs.FirstOf.{accepted-by, all-permitted}
use Rattle.descriptions.specs.Descriptions.{topology_of}
use Rattle.descriptions.specs.Refusals.{whole_vertices, vertices_permitted, round_permitted, lengthwise_permitted}
use Rattle.descriptions.specs.Refusals.{shape_tests, ShapePermitted, shape_of, curve_shape_tests, curve_shape_of}
use Rattle.descriptions.specs.declared.description.Description.{Description}
use Rattle.bodies.specs.Bodies.{drawable}

-- What an answer tells of a test that is left out of it: w is tried together with v, and then the
-- others are; it is asked for w, for v and the others, and for e.
declined : (w v e : Bool) (others : Answer Topology) {number : ℕ} → refused number ≡ cond (w && v) others (refused 10)
    → (w && (is_accepted (cond v others (refused 10)) && e)) ≡ false
declined true v e others h = ap (λ (a : Answer Topology). is_accepted a && e) (sym h)
declined false v e others h = refl

admitted : (w v e : Bool) (others : Answer Topology) {body : Topology} → accepted body ≡ cond (w && v) others (refused 10)
    → e ≡ (w && (is_accepted (cond v others (refused 10)) && e))
admitted true v e others h = ap (λ (a : Answer Topology). is_accepted a && e) h
admitted false v e others h = let z : ◌≡◌ {A = ℕ} 0 1 = cc in absurd (omega arith)

module _ (d : Description) (c : List Float) (room : ℕ) where
  abbrev N : ℕ
  N = vertices_in c

  abbrev enough : Bool
  enough = fits (vertex_count (topology_of d N)) room

  -- the answer of the tests after 10
  abbrev others : Answer Topology
  others = first_of (test 20 (round_permitted d) ∷ test 21 (lengthwise_permitted d N) ∷ []) (topology_of d N)

  -- of an accepted shape, the room decides
  pub room-decides : {body : Topology} {r : Bool} → accepted body ≡ curve_shape_of d c
      → r ≡ fits (vertex_count body) room → r ≡ drawable d c room
  unfolding drawable
  room-decides shape is =
      let body = (accepted-by (curve_shape_tests d c) (topology_of d N) shape).0 in
      is
      ∙ ap (λ (t : Topology). fits (vertex_count t) room) body
      ∙ admitted (whole_vertices c) (vertices_permitted d N) enough others shape

  pub not-shaped : {number : ℕ} → refused number ≡ curve_shape_of d c → drawable d c room ≡ false
  unfolding drawable
  not-shaped shape = declined (whole_vertices c) (vertices_permitted d N) enough others shape

  tests : drawable d c room ≡ true → (is_accepted (shape_of d N) ≡ true) × (enough ≡ true)
  unfolding drawable
  tests h =
      let shaped = is_accepted (shape_of d N) in
      and_parts shaped enough (and_parts (eqb (length c % 3) 0) (shaped && enough) h).1

  -- what is drawn has a permitted shape, and room
  pub drawn-shape : drawable d c room ≡ true → ShapePermitted d N
  drawn-shape h = all-permitted (shape_tests d N) (topology_of d N) (tests h).0

  pub drawn-room : drawable d c room ≡ true → 3 * vertex_count (topology_of d N) ≤ room
  drawn-room h = (fits-bounds (vertex_count (topology_of d N)) room (tests h).1).1

-- what the code's tests decide
pub ruleset drawing = (room-decides, not-shaped, drawn-room)
