-- `tests::moves` is true exactly where the increment is right. Assumes nothing.
use Rattle.std.proofs.Common.{arith}
use Rattle.row_test.proofs.Numbers.{moves_iff}
use Rattle.row_test.proofs.tests.moves.Goals as goal

pub returns : goal.returns
returns c = moves_iff _ _ _ _ _ _ (omega arith) (omega arith) (omega arith) (omega arith) c.wrapping_add.ensures
