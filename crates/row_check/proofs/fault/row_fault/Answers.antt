-- `fault::row_fault`: what the quick test does not let pass is judged by number, as the whole slice. Assumes nothing.
use Rattle.std.proofs.Common.{ap, ◌∙◌, arith}
use lib.Seq.{take_all}
use Rattle.copy_row.specs.Columns.{COLUMNS}
use Rattle.copy_residues.specs.RowCheck.{row_fault}
use Rattle.row_check.proofs.fault.row_fault.Goals as goal

pub returns : goal.returns
returns c = c.by_number.ensures ∙ ap (row_fault _) (take_all COLUMNS _ (omega arith))
