-- `theorems::digit_laws_hold` meets its contract, which is the theorem. Assumes nothing.
use mathlib.Core.Path.{refl}
use Rattle.words.proofs.Laws.{digit_laws}
use Rattle.theorems.proofs.digit_laws_hold.Statement.{statement}
use Rattle.theorems.proofs.digit_laws_hold.Tie as tie

pub digit_laws_hold_spec : {M : Type 1} → statement M
digit_laws_hold_spec = tie.close (tie.spec (λ c. (refl, digit_laws)))
