-- The rows of Instances, by computing. Assumes nothing.
use mathlib.Core.Path.{refl}
use Rattle.copy_residues.proofs.Computing.{computing}
use Rattle.row_check.specs.RowAnswer.{row_answer}
use Rattle.row_check.specs.Instances.{Instances}

pub instances : Instances
unfolding computing row_answer
instances =
    record {
      first = refl;
      later = refl;
      empty = refl;
      padding = refl;
      dead = refl;
      gap = refl;
      gap_first = refl;
      none = refl;
      short = refl;
      two_rows = refl;
      row_first = refl;
      element = refl;
      element_first = refl;
      range = refl;
      range_first = refl;
      residue = refl;
      dead_residue = refl;
      last_residue = refl;
    }
