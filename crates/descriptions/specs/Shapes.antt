-- What the check of a description and its curve answers, by document 01's numbers. Definitions
-- only.
use Rattle.std.specs.Prelude.{Result, Ok, Err}
use Rattle.kinds.specs.declared.topology.Topology.{Topology}
use Rattle.answers.specs.Answers.{Answer, refused, accepted, number_of, first_of}
use Rattle.answers.specs.declared.refusal.Refusal.{Refusal}
use Rattle.descriptions.specs.Refusals.{fold_tests}
use Rattle.descriptions.specs.declared.shaped.Shaped.{Shaped}

-- the body by its numbers
abbrev pub shaped_answer : Result Shaped Refusal → Answer Topology
shaped_answer (Ok shaped) = accepted shaped.body
shaped_answer (Err why) = refused (number_of why)

-- what the check for folds (13) answers, which is the last
abbrev pub folds_answer : Shaped → Answer (Unit {0})
folds_answer shaped = first_of (fold_tests shaped.description shaped.curve.now) tt
