-- `theorems::residues_are_pairs_holds` meets its contract, which is the theorem. Assumes nothing.
use mathlib.Core.Path.{refl}
use Rattle.residue_pairs.proofs.CopyOperands.{residues_are_pairs}
use Rattle.theorems.proofs.residues_are_pairs_holds.Statement.{statement}
use Rattle.theorems.proofs.residues_are_pairs_holds.Tie as tie

pub residues_are_pairs_holds_spec : {M : Type 1} → statement M
residues_are_pairs_holds_spec = tie.close (tie.spec (λ c. (refl, residues_are_pairs)))
