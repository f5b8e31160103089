-- The triangles go to the front of the part that is lent, and the entry by the body's numbers is
-- that of the body alone. Assumes nothing.
use Rattle.std.proofs.Common.{◌≡◌, sym, ap, ◌∙◌, List, ℕ, ◌*◌}
use Rattle.laws.proofs.Lent.{lent-from}
use Rattle.laws.specs.Overwrite.{overwrite}
use Rattle.surface.specs.Triangles.{flatten, shift}
use Rattle.kinds.specs.Kinds.{vertex_count, triangle_count, triangles_of}
use Rattle.kinds.specs.declared.topology.Topology.{Topology}
use Rattle.descriptions.specs.KindNumbers.{number_of, kind_number}
use Rattle.set_table.specs.Table.{with_entry}
use Rattle.shared_set.specs.Additions.{taken}
use Rattle.shared_set.proofs.Counts.{vertices-counted, triangles-counted}
use Rattle.shared_set.proofs.fitting.Fitting.place.Goals as goal

pub returns-clause-triangles_after : goal.returns-clause-triangles_after
returns-clause-triangles_after c =
    let f = c.args.self in
    let list : Topology → List ℕ = λ body. flatten (shift f.totals.vertices (triangles_of body)) in
    lent-from (3 * f.totals.triangles) (list f.shaped.body) c.args.triangles.now c.put_triangles.ensures
    ∙ ap (λ (body : Topology). overwrite (3 * f.totals.triangles) (list body) c.args.triangles.now) f.shaped.described

pub returns-clause-table_after : goal.returns-clause-table_after
returns-clause-table_after c =
    let f = c.args.self in
    let a = taken f.shaped.description f.shaped.curve.now in
    let kind : c.into.result ≡ kind_number f.shaped.description = c.into.ensures ∙ ap number_of c.kind.ensures in
    let vertices = c.vertex_count.ensures ∙ ap vertex_count f.shaped.described ∙ sym (vertices-counted a f.shaped.permitted) in
    let triangles = c.triangle_count.ensures ∙ ap triangle_count f.shaped.described ∙ sym (triangles-counted a f.shaped.permitted) in
    c.write_entry.ensures
    ∙ (λ i. with_entry f.totals.bodies
    (record {
      kind = kind i;
      divisions = c.divisions.ensures i;
      vertex = f.totals.vertices;
      vertices = vertices i;
      triangle = f.totals.triangles;
      triangles = triangles i;
    })
    c.args.table.now)
