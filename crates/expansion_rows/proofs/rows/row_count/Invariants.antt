use Rattle.call.specs.Inner.{call_of}
use Rattle.expansion_rows.proofs.Widths.{RowCountAt}
use Rattle.expansion_rows.proofs.rows.row_count.Given as goal

abbrev pub invariant-loop-left : goal.invariant-loop-left
invariant-loop-left l = RowCountAt (call_of l.initial.left) (call_of l.left) l.n

abbrev pub decreases-loop-left : goal.decreases-loop-left
decreases-loop-left l = l.left.count
