-- `fault::by_number`: the residues before i are 0, so the search of all is the search from there. Assumes nothing.
use Rattle.std.proofs.Common.{◌≡◌, ◌-◌}
use Rattle.lists.specs.Lists.{first}
use Rattle.copy_residues.specs.Residues.{RESIDUES}
use Rattle.copy_residues.specs.RowCheck.{first_residue}
use Rattle.copy_residues.proofs.ZeroResidues.{not_zero}
use Rattle.row_check.proofs.fault.by_number.Given as goal

abbrev pub invariant-loop-i : goal.invariant-loop-i
invariant-loop-i l = first_residue l.gap l.row ≡ first (not_zero l.gap l.row) l.i (RESIDUES - l.i)
