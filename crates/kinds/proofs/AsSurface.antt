-- Each body's list, with its first vertex added, is the list of its surface; and its counts are
-- those of its surface. Assumes nothing.
use Rattle.std.proofs.Common.{◌≡◌, sym, ap, ◌∙◌, Bool, true, false, ◌&&◌, List, ◌++◌, ℕ, ◌+◌, ◌*◌}
use Rattle.std.proofs.Common.{◌^◌, leb, arith}
use Rattle.surface.specs.Triangles.{Triangle, shift}
use Rattle.surface.specs.Limits.{fits}
use Rattle.surface.specs.Whole.{surface_triangles, surface_vertex_count, surface_triangle_count, placeable}
use Rattle.surface.specs.declared.quads.Split.TheVariants as Split
use Rattle.kinds.specs.Lists.{next, ring, vertex, bottom_triangles, top_triangles, layers, closed_triangles}
use Rattle.kinds.specs.Lists.{torus_triangles, tube_triangles, ribbon_triangles}
use Rattle.kinds.specs.Kinds.{permitted, vertex_count, triangle_count, triangles_of, surface_of, layers_of, writable}
use Rattle.kinds.specs.declared.topology.Topology.{Topology}
use Rattle.kinds.specs.declared.topology.Topology.TheVariants.{Ribbon, Tube, Capsule, Torus, ClosedCylinder}
use Rattle.kinds.proofs.Shift.{shift-append, shift-quads, shift-fan}
use Rattle.surface.specs.Grid.{grid_triangles}
use Rattle.surface.specs.Caps.{cap_triangles}
use Rattle.surface.specs.declared.caps.End.TheVariants.{Bottom, Top}
use Rattle.surface.specs.declared.grid.Chain.TheVariants.{Open, Closed}

pub ribbon-list : (m first : ℕ) → shift first (ribbon_triangles m) ≡ grid_triangles Split.Ribbon Open m Open 1 first
ribbon-list m first =
    shift-quads Split.Ribbon first m 1
    (λ g i. 2 * g) (λ g i. 2 * g + 1) (λ g i. 2 * g + 2) (λ g i. 2 * g + 3)
    (λ g i. first + g * 2 + 0) (λ g i. first + g * 2 + 1) (λ g i. first + (g + 1) * 2 + 0) (λ g i. first + (g + 1) * 2 + 1)
    (λ g i. omega arith) (λ g i. omega arith) (λ g i. omega arith) (λ g i. omega arith)

pub tube-list : (n m first : ℕ) → shift first (tube_triangles n m) ≡ grid_triangles Split.Tube Open m Closed n first
tube-list n m first =
    shift-quads Split.Tube first m n
    (λ g i. vertex n g i) (λ g i. vertex n g (next n i)) (λ g i. vertex n (g + 1) i) (λ g i. vertex n (g + 1) (next n i))
    (λ g i. first + g * n + i) (λ g i. first + g * n + next n i) (λ g i. first + (g + 1) * n + i) (λ g i. first + (g + 1) * n + next n i)
    (λ g i. omega arith) (λ g i. omega arith) (λ g i. omega arith) (λ g i. omega arith)

pub torus-list : (n N first : ℕ)
    → shift first (torus_triangles n N) ≡ grid_triangles Split.Torus Closed N Closed n first
torus-list n N first =
    shift-quads Split.Torus first N n
    (λ g i. vertex n g i) (λ g i. vertex n g (next n i)) (λ g i. vertex n (next N g) i) (λ g i. vertex n (next N g) (next n i))
    (λ g i. first + g * n + i) (λ g i. first + g * n + next n i) (λ g i. first + next N g * n + i) (λ g i. first + next N g * n + next n i)
    (λ g i. omega arith) (λ g i. omega arith) (λ g i. omega arith) (λ g i. omega arith)

-- the three parts of a closed body
bottom-list : (n first : ℕ) → shift first (bottom_triangles n) ≡ cap_triangles Bottom n first (first + 1)
bottom-list n first =
    shift-fan first n 0 first (λ i. ring n 0 i) (λ i. ring n 0 (next n i)) (λ i. first + 1 + i) (λ i. first + 1 + next n i)
    (omega arith) (λ i. omega arith) (λ i. omega arith)

layers-list : (n S first : ℕ) → shift first (layers n S) ≡ grid_triangles Split.Capped Open S Closed n (first + 1)
layers-list n S first =
    shift-quads Split.Capped first S n
    (λ g i. ring n g i) (λ g i. ring n g (next n i)) (λ g i. ring n (g + 1) i) (λ g i. ring n (g + 1) (next n i))
    (λ g i. first + 1 + g * n + i) (λ g i. first + 1 + g * n + next n i) (λ g i. first + 1 + (g + 1) * n + i) (λ g i. first + 1 + (g + 1) * n + next n i)
    (λ g i. omega arith) (λ g i. omega arith) (λ g i. omega arith) (λ g i. omega arith)

top-list : (n S first : ℕ)
    → shift first (top_triangles n S) ≡ cap_triangles Top n (first + 1 + (S + 1) * n) (first + 1 + S * n)
top-list n S first =
    shift-fan first n (n * (S + 1) + 1) (first + 1 + (S + 1) * n) (λ i. ring n S (next n i)) (λ i. ring n S i) (λ i. first + 1 + S * n + next n i) (λ i. first + 1 + S * n + i)
    (omega arith) (λ i. omega arith) (λ i. omega arith)

pub closed-list : (n S first : ℕ) → shift first (closed_triangles n S)
    ≡ cap_triangles Bottom n first (first + 1) ++ (grid_triangles Split.Capped Open S Closed n (first + 1) ++ cap_triangles Top n (first + 1 + (S + 1) * n) (first + 1 + S * n))
closed-list n S first =
    shift-append first (bottom_triangles n) (layers n S ++ top_triangles n S)
    ∙ ap (λ (l : List Triangle). shift first (bottom_triangles n) ++ l) (shift-append first (layers n S) (top_triangles n S))
    ∙ (λ j. bottom-list n first j ++ (layers-list n S first j ++ top-list n S first j))

pub as_surface : (t : Topology) (first : ℕ) → shift first (triangles_of t) ≡ surface_triangles (surface_of t) first
unfolding surface_triangles
as_surface (Ribbon k) first = ribbon-list k.segments first
as_surface (Tube k) first = tube-list k.divisions k.segments first
as_surface (Capsule k) first = closed-list k.divisions (layers_of k) first
as_surface (Torus k) first = torus-list k.divisions k.vertices first
as_surface (ClosedCylinder k) first = closed-list k.divisions k.layers first

pub same_vertices : (t : Topology) → surface_vertex_count (surface_of t) ≡ vertex_count t
unfolding surface_vertex_count
same_vertices (Ribbon k) = omega arith
same_vertices (Tube k) = omega arith
same_vertices (Capsule k) = omega arith
same_vertices (Torus k) = omega arith
same_vertices (ClosedCylinder k) = omega arith

pub same_triangles : (t : Topology) → surface_triangle_count (surface_of t) ≡ triangle_count t
unfolding surface_triangle_count
same_triangles (Ribbon k) = omega arith
same_triangles (Tube k) = omega arith
same_triangles (Capsule k) = omega arith
same_triangles (Torus k) = omega arith
same_triangles (ClosedCylinder k) = omega arith

-- what a body and its surface have in common
pub ruleset its_surface = (as_surface, same_vertices, same_triangles)

pub placeable_writable : (t : Topology) (first room : ℕ) → permitted t ≡ true
    → placeable (surface_of t) first room ≡ writable t first room
unfolding placeable writable
placeable_writable t first room p =
    (λ j. leb (first + same_vertices t j) (2 ^ 28) && fits (same_triangles t j) room)
    ∙ sym (ap (λ (b : Bool). b && (leb (first + vertex_count t) (2 ^ 28) && fits (triangle_count t) room)) p)

pub not_writable : (t : Topology) (first room : ℕ) → permitted t ≡ false → false ≡ writable t first room
unfolding writable
not_writable t first room p =
    sym (ap (λ (b : Bool). b && (leb (first + vertex_count t) (2 ^ 28) && fits (triangle_count t) room)) p)
