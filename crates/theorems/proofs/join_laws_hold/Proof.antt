-- `theorems::join_laws_hold` meets its contract, which is the theorem. Assumes nothing.
use mathlib.Core.Path.{refl}
use Rattle.call_join.proofs.JoinLaws.{join_laws}
use Rattle.call_join.proofs.Instances.{instances}
use Rattle.theorems.proofs.join_laws_hold.Statement.{statement}
use Rattle.theorems.proofs.join_laws_hold.Tie as tie

pub join_laws_hold_spec : {M : Type 1} → statement M
join_laws_hold_spec = tie.close (tie.spec (λ c. (refl, join_laws, instances)))
