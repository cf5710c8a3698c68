-- `theorems::routed_in_order_holds` meets its contract, which is the theorem. Assumes nothing.
use mathlib.Core.Path.{refl}
use Rattle.routing.proofs.Arrival.{routed_in_order}
use Rattle.theorems.proofs.routed_in_order_holds.Statement.{statement}
use Rattle.theorems.proofs.routed_in_order_holds.Tie as tie

pub routed_in_order_holds_spec : {M : Type 1} → statement M
routed_in_order_holds_spec = tie.close (tie.spec (λ c. (refl, routed_in_order)))
