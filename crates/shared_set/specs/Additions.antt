-- What refuses an addition to a set of which the number of bodies and the totals are known
-- (document 01, 'Refused, and through whom'). No table is read here: the ledger asks the same.
-- Definitions only.
use Rattle.std.specs.Prelude.{List, [], ◌∷◌, ◌++◌, Float}
use Rattle.kinds.specs.Kinds.{vertex_count, triangle_count}
use Rattle.curve.specs.Segments.{vertices_in}
use Rattle.answers.specs.Answers.{Test, test, not_finite}
use Rattle.descriptions.specs.Descriptions.{topology_of}
use Rattle.descriptions.specs.Refusals.{checked_tests}
use Rattle.descriptions.specs.declared.description.Description.{Description}
use Rattle.twists.specs.declared.twist.Twist.{Twist}
use Rattle.bodies.specs.Bodies.{floats_finite, twist_taken}
use Rattle.set_table.specs.Room.{room_tests}
use Rattle.set_table.specs.declared.lengths.Lengths.{Lengths}
use Rattle.set_table.specs.declared.totals.Totals.{Totals}

-- 2, 3 and 4 of the body's counts
abbrev pub fit_tests : Lengths → Totals → Description → List Float → List Test
fit_tests lent t d c =
    let body = topology_of d (vertices_in c) in
    room_tests lent t (vertex_count body) (triangle_count body)

-- An addition: its arguments other than the buffers, and k, the twist of a body of kind 6: "one k
-- for the whole body" (document 02, No. 1). Of the other kinds k says nothing.
pub record Addition : Type 0 where
  pub description : Description
  pub curve : List Float
  pub twist : Twist

-- the addition with the k that the code takes
abbrev pub taken : Description → List Float → Addition
taken d c = record { description = d; curve = c; twist = twist_taken d c }

-- 23: "a vertex coordinate worked out isn't finite", or "a c0, s0 or score" (document 02, No. 1)
abbrev pub finite_tests : Addition → List Test
finite_tests a = test not_finite (floats_finite a.twist a.description a.curve) ∷ []

-- 2, 3, 4, 23
abbrev pub place_tests : Lengths → Totals → Addition → List Test
place_tests lent t a = fit_tests lent t a.description a.curve ++ finite_tests a

-- "Add's order: 1, 10, 20, 21, 22, 11, 12, 13, 2, 3, 4, 23", after 1
abbrev pub addition_tests : Lengths → Totals → Addition → List Test
addition_tests lent t a = checked_tests a.description a.curve ++ place_tests lent t a
