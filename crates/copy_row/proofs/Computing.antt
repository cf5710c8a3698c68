-- For what holds by computing: to unfold `computing` is to unfold every definition here and below that such an example runs through.
-- Assumes nothing.
use Rattle.call.proofs.Computing as call
use Rattle.copy_row.specs.Rows.{row_of, padding_row}
use Rattle.copy_row.specs.Trace.{copy_answer, copy_after}

unfoldable pub computing : Unit {0}
unfolding call.computing row_of padding_row copy_answer copy_after
computing = tt
