-- `theorems::row_numbers_hold` meets its contract, which is the theorem. Assumes nothing.
use mathlib.Core.Path.{refl}
use Rattle.expansion.proofs.RowNumbers.{row_numbers_lem, row_number_cases}
use Rattle.theorems.proofs.row_numbers_hold.Statement.{statement}
use Rattle.theorems.proofs.row_numbers_hold.Tie as tie

pub row_numbers_hold_spec : {M : Type 1} → statement M
row_numbers_hold_spec = tie.close (tie.spec (λ c. (refl, row_numbers_lem, row_number_cases)))
