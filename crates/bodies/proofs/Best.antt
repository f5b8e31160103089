-- The k that the code takes is one of the best wherever the scores are finite: of a seamless torus
-- because the search picks one, and of the other kinds nothing is asked. Assumes nothing.
use Rattle.std.proofs.Common.{List, Float}
use Rattle.curve.specs.Segments.{vertices_in}
use Rattle.descriptions.specs.declared.description.Description.{Description}
use Rattle.twists.proofs.Chosen.{chosen-best}
use Rattle.seamless_torus.specs.Polyloop3.{ends_of}
use Rattle.bodies.specs.Bodies.{BestTwist, twist_taken}
use Rattle.bodies.proofs.Untwisted.{by-twist}

pub taken-best : (d : Description) (c : List Float) → BestTwist d c (twist_taken d c)
taken-best d c =
    let ends = ends_of (vertices_in c) c in
    by-twist (λ (d : Description). BestTwist d c (twist_taken d c)) c
    (λ n r. chosen-best ends.c0 ends.s0)
    (λ d u. u.best (twist_taken d c))
    d
