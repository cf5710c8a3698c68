-- `lookup_rows::lookup_rows_hold`: its contract is the theorem. Assumes nothing.
use mathlib.Core.Path.{refl}
use Rattle.lookup_rows.proofs.LookupRows.{lookup_rows, row_instances}
use Rattle.lookup_rows.proofs.lookup_rows_hold.Goals as goal

pub returns : goal.returns
returns c = (refl, lookup_rows, row_instances)
