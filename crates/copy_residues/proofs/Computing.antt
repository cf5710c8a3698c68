-- For what holds by computing: to unfold `computing` is to unfold every definition here and below that such an example runs through.
-- Assumes nothing.
use Rattle.field.proofs.Computing as field
use Rattle.copy_row.proofs.Computing as copy_row
use Rattle.copy_residues.specs.Range.{column_limits, first_out}
use Rattle.copy_residues.specs.Residues.{halves_word, step, incr_low, incr_high, decr_low, decr_high, res_low, res_high, gap_low, gap_high}
use Rattle.copy_residues.specs.Residues.{borrow, implies_mu, one_hot, first_write, gated_bit, dst_res_non_write, single_lane, borrow_implies}
use Rattle.copy_residues.specs.Residues.{borrow_implies_zero, end_implies, mu_com_is, mu_com_wide_is, no_wrap, gap_no_wrap, residue}
use Rattle.copy_residues.specs.RowCheck.{first_residue, row_fault}

unfoldable pub computing : Unit {0}
unfolding field.computing copy_row.computing column_limits first_out halves_word step incr_low incr_high decr_low decr_high res_low
    res_high gap_low gap_high borrow implies_mu one_hot first_write gated_bit dst_res_non_write single_lane borrow_implies borrow_implies_zero end_implies
    mu_com_is mu_com_wide_is no_wrap gap_no_wrap residue first_residue row_fault
computing = tt
