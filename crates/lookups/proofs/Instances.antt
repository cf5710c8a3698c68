-- The instances hold, by computing. Assumes nothing.
use mathlib.Core.Path.{refl}
use Rattle.lookups.specs.Instances.{Instances}
use Rattle.lookups.proofs.Computing as lookups

pub instances : Instances
unfolding lookups.computing
instances =
    record {
      pairs = refl;
      served = refl;
      routes = refl;
      just_enough = refl;
      short = refl;
      kept = refl;
      over = refl;
      cut_over = refl;
      cut = refl;
      misplaced = refl;
      later = refl;
      ten_first = refl;
      no_register = refl;
      no_record = refl;
      eight = refl;
      ten = refl;
      eleven = refl;
      nine = refl;
      three_pairs = refl;
    }
