-- Both counts are as many words as C lends room for.
use Rattle.std.proofs.Common.{sym}
use Rattle.descriptions.specs.Refusals.{count_words}
use Rattle.togbefulo.proofs.Put.{words_put}
use Rattle.togbefulo.proofs.alone.togbefulo_counts.Goals as goal

pub returns-clause-counts_after : goal.returns-clause-counts_after
returns-clause-counts_after c =
    let put = words_put count_words c.counts.result c.map.result c.args.counts.now c.put.new.out c.map.ensures.cases c.put.ensures.out_after (λ k. sym c.told-counts) in
    rw (sym c.described.ensures, c.in-Some.is, sym c.counts.ensures) put
