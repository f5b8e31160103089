-- "The table is u32 words .. Vertices are three f32 each, triangles three u32." (document 01, 'The
-- shared set'). Definitions only.
use Rattle.std.specs.Prelude.{List, ℕ, Float, length}
use Rattle.set_table.specs.Room.{lengths}
use Rattle.set_table.specs.declared.lengths.Lengths.{Lengths}

-- the three buffers that are lent
pub record Buffers : Type 0 where
  pub table : List ℕ
  pub vertices : List Float
  pub triangles : List ℕ

abbrev pub buffers : List ℕ → List Float → List ℕ → Buffers
buffers table vertices triangles = record { table = table; vertices = vertices; triangles = triangles }

abbrev pub lengths_of : Buffers → Lengths
lengths_of s = lengths (length s.table) (length s.vertices) (length s.triangles)
