-- One interrupted call more.
use Rattle.std.proofs.Common.{rules, of_calls, refl, [], ◌∷◌, ◌++◌, subst}
use denote.Param.Always.{mut_next}
use Rattle.std.proofs.lemmas.Fn.{FoldsTo-push}
use Rattle.streams.proofs.retry.Goals as goal

pub loop-preserved : goal.loop-preserved
loop-preserved g c =
    let i = c.loop.invariant in
    let error = c.in-Err.error in
    let step : goal.F-step g c.loop.call c.call.result c.call.new.self = search (rules, of_calls) in (
      mut_next g.F.FnMut _ _ _ _ _ step refl i.0,
      i.1 ++ (error ∷ []),
      FoldsTo-push _ _ i.1 _ error _ i.2 (subst (λ r. goal.F-step g c.loop.call r c.call.new.self) c.in-Err.is step, search rules),
    )
