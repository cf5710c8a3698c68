-- `theorems::named_numbers_hold` meets its contract, which is the theorem. Assumes nothing.
use mathlib.Core.Path.{refl}
use Rattle.theorems.proofs.named_numbers_hold.Statement.{statement}
use Rattle.theorems.proofs.named_numbers_hold.Tie as tie

pub named_numbers_hold_spec : {M : Type 1} → statement M
named_numbers_hold_spec = tie.close (tie.spec (λ c. (refl, record { is_p = refl; is_top = refl })))
