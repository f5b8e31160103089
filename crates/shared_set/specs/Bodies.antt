-- A body as the set holds it (document 01, 'The shared set' and the ledger's paragraphs of 'Frames
-- and vertices'). Definitions only.
use Rattle.std.specs.Prelude.{List, ℕ, Float, length}
use Rattle.surface.specs.Triangles.{Triangle}
use Rattle.kinds.specs.Kinds.{triangles_of}
use Rattle.curve.specs.Segments.{vertices_in}
use Rattle.descriptions.specs.Descriptions.{topology_of}
use Rattle.descriptions.specs.KindNumbers.{kind_number, divisions_of}
use Rattle.bodies.specs.Bodies.{vertices_of}
use Rattle.set_table.specs.declared.totals.Totals.{Totals}
use Rattle.set_table.specs.declared.entries.Entry.{Entry}
use Rattle.shared_set.specs.Additions.{Addition}

-- A body as data: its kind and n, its vertices, three floats each, and its local triangles.
pub record Body : Type 0 where
  pub kind : ℕ
  pub divisions : ℕ
  pub vertices : List Float
  pub triangles : List Triangle

abbrev pub vertex_count_in : Body → ℕ
vertex_count_in b = vertices_in b.vertices

abbrev pub triangle_count_in : Body → ℕ
triangle_count_in b = length b.triangles

-- "A body alone is the vertices and local triangles that this paper's definitions give its
-- description and curve", and of kind 6 its k, "with its kind and n".
abbrev pub body_alone : Addition → Body
body_alone a = record {
  kind = kind_number a.description;
  divisions = divisions_of a.description;
  vertices = vertices_of a.twist a.description a.curve;
  triangles = triangles_of (topology_of a.description (vertices_in a.curve));
}

-- the entry of a body that follows bodies of these totals
abbrev pub entry_of : Totals → Body → Entry
entry_of t b = record {
  kind = b.kind;
  divisions = b.divisions;
  vertex = t.vertices;
  vertices = vertex_count_in b;
  triangle = t.triangles;
  triangles = triangle_count_in b;
}
