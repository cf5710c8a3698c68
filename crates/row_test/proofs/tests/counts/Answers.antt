-- `tests::counts` is true exactly where the decrement is right. Assumes nothing.
use Rattle.std.proofs.Common.{arith}
use Rattle.row_test.proofs.Numbers.{counts_iff}
use Rattle.row_test.proofs.tests.counts.Goals as goal

pub returns : goal.returns
returns c = counts_iff _ _ _ _ _ (omega arith) (omega arith) (omega arith) c.wrapping_sub.ensures
