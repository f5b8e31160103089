use Rattle.std.proofs.Common.{◌-◌, length, sym, subst, rules}
use Rattle.std.specs.Io.KnownBytes.{Consumes}
use Rattle.std.proofs.KnownBytes.{Consumes-trans}
use Rattle.streams.proofs.Kept.{front_filled}
use Rattle.streams.proofs.read_full.Goals as goal

pub loop-done-preserved : goal.loop-done-preserved
loop-done-preserved g c =
    let l = c.loop-done in
    let told = c.in_ok-more.ensures in
    let joined =
    front_filled l.done (length l.buf - l.done) c.in_ok-more.more l.buf c.read_some.new.buf l.invariant.0 told.bound.0 in
    (search rules, subst (Consumes _ _) (sym joined) (Consumes-trans _ _ _ _ _ l.invariant.1 told.bytes.0))
