-- `theorems::counted_ahead_holds` meets its contract, which is the theorem. Assumes nothing.
use mathlib.Core.Path.{refl}
use Rattle.calls_in_turn.proofs.Counted.{records_counted, calls_counted}
use Rattle.theorems.proofs.counted_ahead_holds.Statement.{statement}
use Rattle.theorems.proofs.counted_ahead_holds.Tie as tie

pub counted_ahead_holds_spec : {M : Type 1} → statement M
counted_ahead_holds_spec = tie.close (tie.spec (λ c. (refl, λ s cs l. record { records = records_counted s cs l; calls = calls_counted s cs l })))
