-- The last read gave the result, and those before it took nothing.
use Rattle.std.proofs.Common.{rules}
use Rattle.std.specs.Io.{ReadsAtMost}
use Rattle.std.specs.Io.KnownBytes.{ReadConsumes}
use Rattle.streams.proofs.Kept.{kept_consumes}
use Rattle.streams.proofs.Again.{known_again, last_told, unchanged}
use Rattle.streams.proofs.read_some.Goals as goal

pub returns-clause-bound : goal.returns-clause-bound
returns-clause-bound g c =
    let calls = c.retry.ensures.calls in
    let buf = unchanged calls (λ f. f.1.ghost_name) (λ p r q told. search rules) in
    let told : ReadsAtMost c.retry.result c.retry.new.call.1.now = last_told calls _ (λ last count told. search rules) in
    search rules

pub returns-clause-bytes : goal.returns-clause-bytes
returns-clause-bytes g c =
    let calls = c.retry.ensures.calls in
    let input = unchanged calls (λ f. f.0.ghost_name) (λ p r q told. search rules) in
    let buf = unchanged calls (λ f. f.1.ghost_name) (λ p r q told. search rules) in
    let left = c.retry.new.call in
    let told : ReadConsumes (g.R.Read.remaining c.args.input.now) (g.R.Read.remaining left.0.now) c.retry.result left.1.now =
    known_again calls (λ f. g.R.Read.remaining f.0.now) (λ p error q told. search rules) _ (λ last count told kept. (kept_consumes _ _ _ _ kept (search rules), search rules)) in
    search rules
