-- `judge::sum_in_row`: the terms passed are in the row. Assumes nothing.
use Rattle.std.proofs.Common.{◌≡◌, true}
use Rattle.operands.specs.Operands.{every, term_in_row, term_at}
use Rattle.operands.proofs.judge.sum_in_row.Given as goal

abbrev pub invariant-loop-k : goal.invariant-loop-k
invariant-loop-k l = every (λ i. term_in_row (term_at l.terms i)) l.k ≡ true
