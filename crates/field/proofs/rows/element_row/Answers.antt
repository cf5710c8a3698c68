-- `rows::element_row`: a row that is refused for nothing is a row of elements. Assumes nothing.
use Rattle.std.proofs.Common.{sym}
use Rattle.field.proofs.Verdicts.{is_fine}
use Rattle.field.proofs.rows.element_row.Goals as goal

pub invariant_of-result : goal.invariant_of-result
invariant_of-result g c =
    record { elements = (is_fine _ _ _ (sym c.in_ok-row_verdict.ensures)).row_is }
