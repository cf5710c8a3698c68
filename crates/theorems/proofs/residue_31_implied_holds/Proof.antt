-- `theorems::residue_31_implied_holds` meets its contract, which is the theorem. Assumes nothing.
use mathlib.Core.Path.{refl}
use Rattle.residue_pairs.proofs.Implied.{high_count_implied}
use Rattle.theorems.proofs.residue_31_implied_holds.Statement.{statement}
use Rattle.theorems.proofs.residue_31_implied_holds.Tie as tie

pub residue_31_implied_holds_spec : {M : Type 1} → statement M
residue_31_implied_holds_spec = tie.close (tie.spec (λ c. (refl, high_count_implied)))
