-- A surface without caps is a grid that fits. Assumes nothing.
use Rattle.std.proofs.Common.{sym, ◌∙◌, length}
use Rattle.surface.proofs.Room.{bare_fits}
use Rattle.surface.proofs.whole.Surface.put_triangles.Goals as goal

pub write_grid-requires : goal.write_grid-requires
write_grid-requires c =
    let a = c.args in
    bare_fits a.self a.first (length a.out.now) c.requires (sym c.is_capped.ensures ∙ c.if-is_capped.false)
