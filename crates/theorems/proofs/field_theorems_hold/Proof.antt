-- `theorems::field_theorems_hold` meets its contract, which is the theorem. Assumes nothing.
use mathlib.Core.Path.{refl}
use Rattle.field.proofs.Theorems.{field_theorems}
use Rattle.theorems.proofs.field_theorems_hold.Statement.{statement}
use Rattle.theorems.proofs.field_theorems_hold.Tie as tie

pub field_theorems_hold_spec : {M : Type 1} → statement M
field_theorems_hold_spec = tie.close (tie.spec (λ c. (refl, field_theorems)))
