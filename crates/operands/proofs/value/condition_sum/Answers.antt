-- `value::condition_sum`: the total is the sum of the columns passed. Assumes nothing.
use Rattle.std.proofs.Common.{◌<◌, get_or, arith, ltb-true}
use Rattle.copy_row.specs.Columns.{COLUMNS}
use Rattle.operands.specs.Operands.{conditions_in_row}
use Rattle.operands.proofs.Every.{every_at}
use Rattle.operands.proofs.Sums.{sum_none, sum_next}
use Rattle.operands.proofs.value.condition_sum.Goals as goal

pub loop-column-init : goal.loop-column-init
loop-column-init c = (sum_none _, omega arith)

pub cell-requires : goal.cell-requires
unfolding conditions_in_row
cell-requires c =
    let column : get_or c.args.conditions.now c.loop-column.column-index 0 < COLUMNS = ltb-true _ COLUMNS (every_at _ _ c.requires _ c.loop-column-test.true) in
    (omega arith, column)

pub loop-column-preserved : goal.loop-column-preserved
loop-column-preserved c = (sum_next _ _ c.add-total.ensures c.loop-column.invariant.0 c.cell.ensures, c.add-total.result.below_p)
