-- A permitted body is written as its surface is; the lists are one. Assumes nothing.
use Rattle.std.proofs.Common.{◌≡◌, refl, sym, ap, ◌∙◌, true, List, length}
use Rattle.surface.specs.Triangles.{Triangle, flatten}
use Rattle.laws.specs.Overwrite.{placed}
use Rattle.surface.specs.Whole.{surface_triangles, placeable}
use Rattle.surface.specs.declared.whole.Surface.{Surface}
use Rattle.kinds.specs.Kinds.{permitted}
use Rattle.kinds.proofs.AsSurface.{as_surface, placeable_writable, not_writable}
use Rattle.kinds.proofs.topology.Topology.write_triangles.Goals as goal

pub returns-then-is_permitted : goal.returns-then-is_permitted
returns-then-is_permitted c = let a = c.args in
    let w = c.write_triangles in
    let s = c.surface.ensures in
    let p : permitted a.self ≡ true = sym c.is_permitted.ensures ∙ c.if-is_permitted.true in
    record {
      answer = w.ensures.answer
          ∙ ap (λ (x : Surface). placeable x a.first (length a.out.now)) s
          ∙ placeable_writable a.self a.first (length a.out.now) p;
      written = w.ensures.written
          ∙ ap (λ (x : Surface). placed w.result (flatten (surface_triangles x a.first)) a.out.now) s
          ∙ ap (λ (l : List Triangle). placed w.result (flatten l) a.out.now) (sym (as_surface a.self a.first));
    }

pub returns : goal.returns
returns c = let a = c.args in
    record {
      answer = not_writable a.self a.first (length a.out.now) (sym c.is_permitted.ensures ∙ c.if-is_permitted.false);
      written = refl;
    }
