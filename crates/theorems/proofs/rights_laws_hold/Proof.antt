-- `theorems::rights_laws_hold` meets its contract, which is the theorem. Assumes nothing.
use mathlib.Core.Path.{refl}
use Rattle.rights.proofs.RightsLaws.{rights_laws}
use Rattle.rights.proofs.Instances.{instances}
use Rattle.theorems.proofs.rights_laws_hold.Statement.{statement}
use Rattle.theorems.proofs.rights_laws_hold.Tie as tie

pub rights_laws_hold_spec : {M : Type 1} → statement M
rights_laws_hold_spec = tie.close (tie.spec (λ c. (refl, rights_laws, instances)))
