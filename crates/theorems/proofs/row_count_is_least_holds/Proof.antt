-- `theorems::row_count_is_least_holds` meets its contract, which is the theorem. Assumes nothing.
use mathlib.Core.Path.{refl}
use Rattle.records.proofs.RowCount.{row_count_least}
use Rattle.theorems.proofs.row_count_is_least_holds.Statement.{statement}
use Rattle.theorems.proofs.row_count_is_least_holds.Tie as tie

pub row_count_is_least_holds_spec : {M : Type 1} → statement M
row_count_is_least_holds_spec = tie.close (tie.spec (λ c. (refl, row_count_least)))
