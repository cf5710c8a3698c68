-- `theorems::expansion_consequences_hold` meets its contract, which is the theorem. Assumes nothing.
use mathlib.Core.Path.{refl}
use Rattle.expansion.proofs.Consequences.{consequences}
use Rattle.theorems.proofs.expansion_consequences_hold.Statement.{statement}
use Rattle.theorems.proofs.expansion_consequences_hold.Tie as tie

pub expansion_consequences_hold_spec : {M : Type 1} → statement M
expansion_consequences_hold_spec = tie.close (tie.spec (λ c. (refl, consequences)))
