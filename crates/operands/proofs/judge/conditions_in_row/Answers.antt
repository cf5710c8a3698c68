-- `judge::conditions_in_row`: all columns passed are in the row, and the first that is not decides. Assumes nothing.
use Rattle.std.proofs.Common.{arith, lt-ltb, le-ltb}
use Rattle.operands.specs.Operands.{conditions_in_row}
use Rattle.operands.proofs.Every.{every_none, every_next, every_miss, every_end}
use Rattle.operands.proofs.judge.conditions_in_row.Goals as goal

pub loop-column-init : goal.loop-column-init
loop-column-init c = every_none _

pub returns-then-column : goal.returns-then-column
unfolding conditions_in_row
returns-then-column c = every_miss _ _ _ c.loop-column-test.true (le-ltb _ _ (omega arith))

pub loop-column-preserved : goal.loop-column-preserved
loop-column-preserved c = every_next _ _ c.loop-column.invariant (lt-ltb _ _ (omega arith))

pub returns : goal.returns
unfolding conditions_in_row
returns c = every_end _ _ _ (omega arith) c.loop-column.invariant
