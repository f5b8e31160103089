-- When buffers hold a ledger: they begin with its set, which keeps to the limits of a set.
-- Definitions only.
use Rattle.std.specs.Prelude.{◌≡◌, List, ◌++◌, ◌*◌, ◌≤◌, length, drop}
use Rattle.surface.specs.Limits.{most_in_all}
use Rattle.set_table.specs.Entries.{table_words}
use Rattle.set_table.specs.Room.{most_bodies}
use Rattle.set_table.specs.declared.lengths.Lengths.{Lengths}
use Rattle.set_table.specs.Buffers.{Buffers, lengths_of}
use Rattle.ledger.specs.Ledger.{Ledger, body_count, vertex_sum, triangle_sum, set_table, set_vertices, set_triangles}
use Rattle.ledger.specs.Shapes.{EachShaped}

-- "begin with .., bit for bit. Past it they hold what they held"
abbrev pub begins_with : {A : Type 0} → List A → List A → List A
begins_with set held = set ++ drop (length set) held

-- the ledger's set keeps to the limits of a set, and fits buffers of these lengths
pub record Limited (lent : Lengths) (L : Ledger) : Type 0 where
  pub few : body_count L ≤ most_bodies
  pub entries : table_words (body_count L) ≤ lent.table
  pub vertices : (vertex_sum L ≤ most_in_all) × (3 * vertex_sum L ≤ lent.vertices)
  pub triangles : (triangle_sum L ≤ most_in_all) × (3 * triangle_sum L ≤ lent.triangles)

pub record Holds (s : Buffers) (L : Ledger) : Type 0 where
  pub limits : Limited (lengths_of s) L
  pub each : EachShaped L
  pub table : s.table ≡ begins_with (set_table L) s.table
  pub vertices : s.vertices ≡ begins_with (set_vertices L) s.vertices
  pub triangles : s.triangles ≡ begins_with (set_triangles L) s.triangles
