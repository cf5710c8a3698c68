-- `theorems::borrow_constants_hold` meets its contract, which is the theorem. Assumes nothing.
use mathlib.Core.Path.{refl}
use Rattle.field.proofs.Constants.{borrow_constants}
use Rattle.theorems.proofs.borrow_constants_hold.Statement.{statement}
use Rattle.theorems.proofs.borrow_constants_hold.Tie as tie

pub borrow_constants_hold_spec : {M : Type 1} → statement M
borrow_constants_hold_spec = tie.close (tie.spec (λ c. (refl, borrow_constants)))
