-- `theorems::rows_are_cut_holds` meets its contract, which is the theorem. Assumes nothing.
use mathlib.Core.Path.{refl}
use Rattle.expansion_rows.proofs.RowsCut.{rows_are_cut}
use Rattle.theorems.proofs.rows_are_cut_holds.Statement.{statement}
use Rattle.theorems.proofs.rows_are_cut_holds.Tie as tie

pub rows_are_cut_holds_spec : {M : Type 1} → statement M
rows_are_cut_holds_spec = tie.close (tie.spec (λ c. (refl, rows_are_cut)))
