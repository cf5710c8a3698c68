-- `theorems::call_instances_hold` meets its contract, which is the theorem. Assumes nothing.
use mathlib.Core.Path.{refl}
use Rattle.call.proofs.Instances.{instances}
use Rattle.theorems.proofs.call_instances_hold.Statement.{statement}
use Rattle.theorems.proofs.call_instances_hold.Tie as tie

pub call_instances_hold_spec : {M : Type 1} → statement M
call_instances_hold_spec = tie.close (tie.spec (λ c. (refl, instances)))
