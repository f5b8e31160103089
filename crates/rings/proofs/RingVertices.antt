-- The rings of a tube, a torus and a cap have the vertices of the definitions. Assumes nothing.
use Rattle.std.proofs.Common.{◌≡◌, refl, ap, ◌∙◌, ℕ, Float}
use Rattle.surface.specs.declared.caps.End.{End}
use Rattle.surface.specs.declared.caps.End.TheVariants.{Bottom, Top}
use Rattle.vec3.specs.Points.{thrice, scaled, product_of}
use Rattle.vec3.specs.declared.points.Point.{Point}
use Rattle.vec3.specs.declared.turns.Direction.{Direction}
use Rattle.rings.specs.Vertices.{ring_of, tube_vertex, bottom_vertex, top_vertex, torus_vertex, cap_vertex}
use Rattle.rings.specs.Rings.{ring_around, two_terms, sum_first, ring_vertex, ring_at, cap_ring}
use Rattle.rings.specs.declared.axes.Axes.{Axes}
use Rattle.rings.specs.declared.ring.Order.TheVariants.{EyFirst, SumFirst}
use Rattle.rings.specs.declared.ring.Ring.{Ring}

pub tube-vertices : (a : Axes) (r : Float) → ring_vertex (ring_at EyFirst a r) ≡ tube_vertex a r
unfolding ring_around two_terms tube_vertex thrice scaled product_of
tube-vertices a r = refl

pub torus-vertices : (a : Axes) (r : Float) → ring_vertex (ring_at SumFirst a r) ≡ torus_vertex a r
unfolding ring_around sum_first torus_vertex thrice scaled product_of
torus-vertices a r = refl

cap-vertices : (end : End) (a : Axes) (r : Float) (L j : ℕ)
    → ring_vertex (cap_ring end a r L j) ≡ cap_vertex end a r L j
unfolding ring_around two_terms bottom_vertex top_vertex thrice scaled product_of
cap-vertices Bottom a r L j = refl
cap-vertices Top a r L j = refl

-- so the floats of a cap's ring, as a call makes it, are those of these vertices
pub cap-ring : (end : End) (a : Axes) (r : Float) (L j n : ℕ) {k : Ring} → k ≡ cap_ring end a r L j
    → ring_of (ring_vertex k) n ≡ ring_of (cap_vertex end a r L j) n
cap-ring end a r L j n is =
    ap (λ (k : Ring). ring_of (ring_vertex k) n) is ∙ ap (λ (v : Direction → Point). ring_of v n)
    (cap-vertices end a r L j)
