-- `theorems::route_laws_hold` meets its contract, which is the theorem. Assumes nothing.
use mathlib.Core.Path.{refl}
use Rattle.classify.proofs.RouteLaws.{route_laws, route_instances}
use Rattle.theorems.proofs.route_laws_hold.Statement.{statement}
use Rattle.theorems.proofs.route_laws_hold.Tie as tie

pub route_laws_hold_spec : {M : Type 1} → statement M
route_laws_hold_spec = tie.close (tie.spec (λ c. (refl, route_laws, route_instances)))
