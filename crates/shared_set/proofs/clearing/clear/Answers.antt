-- One store; an empty table holds what it held. Assumes nothing.
use Rattle.std.proofs.Common.{◌≡◌, sym, ◌∙◌, length, List, [], ◌∷◌, append-nil, ℕ, arith}
use Rattle.laws.specs.Overwrite.{overwrite}
use Rattle.laws.proofs.Overwrite.{one_store, overwrite-past}
use Rattle.shared_set.specs.Set.{cleared}
use Rattle.shared_set.proofs.clearing.clear.Goals as goal

-- a clear stores 0 in word 0
stored : (T : List ℕ) → cleared T ≡ overwrite 0 (0 ∷ []) T
stored T = search append-nil

pub returns-then-is_empty-clause-table_after : goal.returns-then-is_empty-clause-table_after
returns-then-is_empty-clause-table_after c =
    let T = c.args.table.now in
    let none : length T ≡ 0 = grind arith in
    overwrite-past 0 (0 ∷ []) T (omega arith) ∙ sym (stored T)

pub returns-clause-table_after : goal.returns-clause-table_after
returns-clause-table_after c = let T = c.args.table.now in
    one_store 0 0 T ∙ sym (stored T)
