-- `value::condition_sum`: the total is the sum of the columns passed. Assumes nothing.
use Rattle.std.proofs.Common.{◌≡◌, ◌<◌, get_or}
use Rattle.lists.specs.Lists.{at}
use Rattle.field.specs.Field.{p}
use Rattle.operands.specs.Operands.{sum_p}
use Rattle.operands.proofs.value.condition_sum.Given as goal

abbrev pub invariant-loop-column : goal.invariant-loop-column
invariant-loop-column l = (l.total.0 ≡ sum_p (λ i. at l.row.numbers.now (get_or l.conditions i 0)) l.column-index) × (l.total.0 < p)
