-- `copy_row::trace::copy_answer` meets its contract: the answer for operation records and rows of 41 numbers. Assumes nothing.
use borrow.Author.Rules.{rules}
use Rattle.copy_row.specs.Trace.{copy_answer}
use Rattle.copy_row.proofs.trace.copy_answer.Statement.{statement}
use Rattle.copy_row.proofs.trace.copy_answer.Tie as tie

returns : tie.Need-returns
unfolding copy_answer
returns c = c.kind_answer.ensures

pub copy_answer_spec : {M : Type 1} → statement M
copy_answer_spec = tie.close (tie.spec (λ c κs. search rules) returns)
