-- `judge::conditions_in_row`: the columns passed are in the row. Assumes nothing.
use Rattle.std.proofs.Common.{◌≡◌, true, ltb, get_or}
use Rattle.copy_row.specs.Columns.{COLUMNS}
use Rattle.operands.specs.Operands.{every}
use Rattle.operands.proofs.judge.conditions_in_row.Given as goal

abbrev pub invariant-loop-column : goal.invariant-loop-column
invariant-loop-column l = every (λ i. ltb (get_or l.conditions i 0) COLUMNS) l.column-index ≡ true
