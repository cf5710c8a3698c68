-- For what holds by computing: to unfold `computing` is to unfold every definition here and below that such an example runs through.
-- Assumes nothing.
use Rattle.call.proofs.Computing as call
use Rattle.window.proofs.Computing as window
use Rattle.expansion_rows.specs.Rows.{rows_by, copy_row_width, widths_within, widths_of}
use Rattle.expansion_rows.specs.Turns.{turn_bytes, turn_stamps, turn_accesses, row_ops, pass_bytes, pass_stamps, pass_accesses}
use Rattle.expansion_rows.specs.Held.{held_all_bytes, held_all_stamps, held_accesses}

unfoldable pub computing : Unit {0}
unfolding call.computing window.computing rows_by copy_row_width widths_within widths_of turn_bytes turn_stamps turn_accesses row_ops pass_bytes pass_stamps
    pass_accesses held_all_bytes held_all_stamps held_accesses
computing = tt
