use Rattle.std.proofs.Common.{rules, ◌++◌, take}
use Rattle.std.proofs.KnownBytes.{Appends-kept, Appends-trans}
use Rattle.streams.proofs.Kept.{is_front, rest_more}
use Rattle.streams.proofs.write_all.Goals as goal

pub returns-in_err-taken-clause-front : goal.returns-in_err-taken-clause-front
returns-in_err-taken-clause-front g c =
    let i = c.loop-rest.invariant in
    let front = is_front _ _ i.0 _ i.1 (Appends-kept _ _ _ _ i.2 c.in_err-taken.ensures.bytes) in
    search rules

pub returns-then-taken-eq0-clause-front : goal.returns-then-taken-eq0-clause-front
returns-then-taken-eq0-clause-front g c =
    let i = c.loop-rest.invariant in
    let told = c.in_ok-taken.ensures.bytes in
    is_front _ _ _ _ (rest_more i.0 _ c.in_ok-taken.taken i.1) (Appends-trans _ _ _ _ _ i.2 told)

pub loop-rest-preserved : goal.loop-rest-preserved
loop-rest-preserved g c =
    let i = c.loop-rest.invariant in
    let n = c.in_ok-taken.taken in
    (i.0 ++ take n _, rest_more i.0 _ n i.1, Appends-trans _ _ _ _ _ i.2 c.in_ok-taken.ensures.bytes)
