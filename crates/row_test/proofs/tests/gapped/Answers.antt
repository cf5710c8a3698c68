-- `tests::gapped` is true exactly where the gap is right. Assumes nothing.
use Rattle.std.proofs.Common.{arith}
use Rattle.row_test.proofs.Numbers.{gapped_iff}
use Rattle.row_test.proofs.tests.gapped.Goals as goal

pub returns : goal.returns
returns c = gapped_iff _ _ _ _ _ (omega arith) (omega arith) c.wrapping_sub.ensures
