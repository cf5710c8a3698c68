-- `tests::results` is one equation. Assumes nothing.
use Rattle.std.proofs.Common.{◌∙◌}
use Rattle.row_test.proofs.Booleans.{eq_iff}
use Rattle.row_test.proofs.tests.results.Goals as goal

pub returns : goal.returns
returns c = eq_iff _ _ _ (c.wrapping_add.ensures ∙ rw c.gated.ensures)
