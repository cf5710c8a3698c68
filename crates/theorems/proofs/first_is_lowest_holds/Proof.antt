-- `theorems::first_is_lowest_holds` meets its contract, which is the theorem. Assumes nothing.
use mathlib.Core.Path.{refl}
use Rattle.lists.proofs.First.{first_lowest}
use Rattle.theorems.proofs.first_is_lowest_holds.Statement.{statement}
use Rattle.theorems.proofs.first_is_lowest_holds.Tie as tie

pub first_is_lowest_holds_spec : {M : Type 1} → statement M
first_is_lowest_holds_spec = tie.close (tie.spec (λ c. (refl, first_lowest)))
