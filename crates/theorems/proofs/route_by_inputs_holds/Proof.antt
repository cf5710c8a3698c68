-- `theorems::route_by_inputs_holds` meets its contract, which is the theorem. Assumes nothing.
use mathlib.Core.Path.{refl}
use Rattle.reg_access.proofs.Route.{register_exactly, pushes_told}
use Rattle.theorems.proofs.route_by_inputs_holds.Statement.{statement}
use Rattle.theorems.proofs.route_by_inputs_holds.Tie as tie

pub route_by_inputs_holds_spec : {M : Type 1} → statement M
route_by_inputs_holds_spec = tie.close (tie.spec (λ c. (refl, register_exactly, pushes_told)))
