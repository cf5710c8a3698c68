-- `tests::flags`: eight tests, each its fact. Assumes nothing.
use Rattle.row_test.proofs.Numbers.{flags_iff}
use Rattle.row_test.proofs.tests.flags.Goals as goal

pub returns : goal.returns
returns c = flags_iff _ _ _ _ _ _ _ _ _ _ _ _ _ _ c.empty-nothing.ensures c.gated.ensures c.gated-2.ensures c.gated-3.ensures
