-- A sound table leaves the answer to the file. Assumes nothing.
use Rattle.std.proofs.Common.{◌∙◌, length}
use Rattle.set_table.specs.Buffers.{buffers}
use Rattle.set_table.proofs.Tables.{reads}
use Rattle.set_file.proofs.Files.{word-sound}
use Rattle.set_file.proofs.file.file_word.Goals as goal

pub invariant_of-set : goal.invariant_of-set
invariant_of-set c =
    let a = c.args in
    let told = reads a.table.now (length a.vertices.now) (length a.triangles.now) c.in_ok-totals.ensures in
    record {
      table_held = told.1.held;
      few_vertices = told.1.vertices;
      vertices_held = told.1.vertices-held;
      few_triangles = told.1.triangles;
      triangles_held = told.1.triangles-held;
    }

pub returns : goal.returns
returns c =
    let a = c.args in
    let s = buffers a.table.now a.vertices.now a.triangles.now in
    c.word.ensures ∙ word-sound s a.place c.in_ok-totals.ensures
