-- `residue`: where nothing is refused the number is a residue's. Assumes nothing.
use Rattle.copy_residues.proofs.ResidueAnswers.{number_of}
use Rattle.copy_residues.proofs.residue.Goals as goal

pub residue_with-requires : goal.residue_with-requires
residue_with-requires c = number_of _ _ c.in_ok-row.ensures.ok.1
