-- `row::is_plain`: a column at or above its cap is a fault, and where all lie below the tests decide. Assumes nothing.
use mathlib.Core.Path.{sym, ◌∙◌}
use mathlib.Core.Bool.{false≢true}
use Rattle.row_test.proofs.Columns.{caps_of_fine}
use Rattle.row_test.proofs.row.is_plain.Goals as goal

pub returns-then-not-fits : goal.returns-then-not-fits
returns-then-not-fits c = (
  λ h. absurd (false≢true h),
  λ e.
      let given = c.requires in
      sym (c.if-not-fits.true) ∙ c.fits.ensures.1 (caps_of_fine _ given.0 _ given.1 e),
)
