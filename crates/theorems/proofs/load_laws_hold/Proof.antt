-- `theorems::load_laws_hold` meets its contract, which is the theorem. Assumes nothing.
use mathlib.Core.Path.{refl}
use Rattle.load.proofs.LoadLaws.{laws}
use Rattle.load.proofs.Instances.{instances}
use Rattle.theorems.proofs.load_laws_hold.Statement.{statement}
use Rattle.theorems.proofs.load_laws_hold.Tie as tie

pub load_laws_hold_spec : {M : Type 1} → statement M
load_laws_hold_spec = tie.close (tie.spec (λ c. (refl, laws, instances)))
