-- A body of a permitted shape has as many vertices and triangles as the counts promise. Assumes
-- nothing.
use Rattle.std.proofs.Common.{◌≡◌, ap, ◌∙◌, ℕ, ◌*◌, ◌/◌, arith}
use Rattle.kinds.specs.Kinds.{vertex_count, triangle_count}
use Rattle.kinds.specs.declared.topology.Topology.{Topology}
use Rattle.kinds.proofs.Claims.{permitted-claims}
use Rattle.curve.specs.Segments.{vertices_in}
use Rattle.descriptions.specs.Descriptions.{topology_of}
use Rattle.descriptions.specs.Refusals.{ShapePermitted}
use Rattle.descriptions.proofs.Shapes.{shape-permitted}
use Rattle.bodies.proofs.Lengths.{length-vertices}
use Rattle.shared_set.specs.Additions.{Addition}
use Rattle.shared_set.specs.Bodies.{vertex_count_in, triangle_count_in, body_alone}

thirds : (n : ℕ) → 3 * n / 3 ≡ n
thirds n = omega arith

abbrev numbers : Addition → Topology
numbers a = topology_of a.description (vertices_in a.curve)

module _ (a : Addition) (h : ShapePermitted a.description (vertices_in a.curve)) where
  pub vertices-counted : vertex_count_in (body_alone a) ≡ vertex_count (numbers a)
  vertices-counted =
      ap (λ (k : ℕ). k / 3) (length-vertices a.twist a.description a.curve h)
      ∙ thirds (vertex_count (numbers a))

  pub triangles-counted : triangle_count_in (body_alone a) ≡ triangle_count (numbers a)
  triangles-counted =
      (permitted-claims (numbers a) (shape-permitted a.description (vertices_in a.curve) h)).0.triangles
