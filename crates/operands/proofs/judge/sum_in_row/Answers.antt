-- `judge::sum_in_row`: of at most four terms all passed are in the row, and the first that is not decides. Assumes nothing.
use Rattle.std.proofs.Common.{sym, ◌∙◌, arith}
use Rattle.operands.proofs.Every.{every_none, every_next}
use Rattle.operands.proofs.Operands.{sum_miss, sum_all}
use Rattle.operands.proofs.judge.sum_in_row.Goals as goal

pub loop-k-init : goal.loop-k-init
loop-k-init c = every_none _

pub returns-then-not-term_in_row : goal.returns-then-not-term_in_row
returns-then-not-term_in_row c = sum_miss _ _ _ c.loop-k-test.true (sym c.term_in_row.ensures ∙ c.if-not-term_in_row.true)

pub loop-k-preserved : goal.loop-k-preserved
loop-k-preserved c = every_next _ _ c.loop-k.invariant (sym c.term_in_row.ensures ∙ c.if-not-term_in_row.false)

pub returns : goal.returns
returns c = sum_all _ _ _ (omega arith) (omega arith) c.loop-k.invariant
