-- `theorems::lookup_laws_hold` meets its contract, which is the theorem. Assumes nothing.
use mathlib.Core.Path.{refl}
use Rattle.lookups.proofs.LookupLaws.{lookup_laws}
use Rattle.lookups.proofs.Instances.{instances}
use Rattle.theorems.proofs.lookup_laws_hold.Statement.{statement}
use Rattle.theorems.proofs.lookup_laws_hold.Tie as tie

pub lookup_laws_hold_spec : {M : Type 1} → statement M
lookup_laws_hold_spec = tie.close (tie.spec (λ c. (refl, lookup_laws, instances)))
