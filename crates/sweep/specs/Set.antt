-- The set that the program keeps, as the three buffers of every contract on sets. Definitions
-- only.
use Rattle.set_table.specs.Buffers.{Buffers, buffers}
use Rattle.sweep.specs.declared.set.SetBuffers.{SetBuffers}

abbrev pub held : SetBuffers → Buffers
held set = buffers set.table set.vertices set.triangles
