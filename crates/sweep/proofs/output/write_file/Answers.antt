-- The file is no longer than its buffer, so that its bytes are all there. Assumes nothing.
use Rattle.std.proofs.Common.{arith, subst, replicate, OnOk, OnErr}
use Rattle.std.proofs.lemmas.List.{length-replicate}
use Rattle.std.specs.Io.KnownBytes.{Appends}
use Rattle.streams.specs.Filled.{AppendsFront}
use Rattle.sweep.specs.Set.{held}
use Rattle.sweep.proofs.Whole.{Sized, all-bytes}
use Rattle.sweep.proofs.output.write_file.Goals as goal

pub returns : goal.returns
returns g c =
    let s = held c.args.set.now in
    let sized : Sized s = record { table = omega arith; vertices = omega arith; triangles = omega arith } in
    let filled = c.fill_file-count.ensures in
    let wrote = c.write_words.ensures in
    let file = all-bytes s (replicate 24964 0) (replicate 99856 0) sized filled.count filled.written wrote.fits wrote.written (simp length-replicate) (simp length-replicate) in
    let old = g.W.Write.contents c.args.output.now in
    let new = g.W.Write.contents c.send.new.output in
    record {
      whole = subst (λ bytes. OnOk c.send.result (Appends old new bytes)) file c.send.ensures.whole;
      front = subst (λ bytes. OnErr c.send.result (AppendsFront old new bytes)) file c.send.ensures.front;
    }
