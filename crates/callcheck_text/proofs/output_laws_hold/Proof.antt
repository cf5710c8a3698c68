-- `callcheck_text::output_laws_hold` meets its contract, which is the laws of the output. Assumes nothing.
use mathlib.Core.Path.{refl}
use Rattle.callcheck_text.proofs.Prefix.{prefix_decides}
use Rattle.callcheck_text.proofs.Examples.{examples}
use Rattle.callcheck_text.proofs.Passes.{verdict_passes}
use Rattle.callcheck_text.proofs.LiveRows.{live_rows_printed}
use Rattle.callcheck_text.proofs.Nine.{nine_is_rows}
use Rattle.callcheck_text.proofs.output_laws_hold.Statement.{statement}
use Rattle.callcheck_text.proofs.output_laws_hold.Tie as tie

pub output_laws_hold_spec : {M : Type 1} → statement M
output_laws_hold_spec = tie.close (tie.spec (λ c. (refl, prefix_decides, verdict_passes, live_rows_printed, nine_is_rows, examples)))
