-- The instances hold, by computing. Assumes nothing.
use mathlib.Core.Path.{refl}
use Rattle.copy_residues.proofs.Computing as judged
use Rattle.copy_meaning.specs.Instances.{Instances}

pub instances : Instances
unfolding judged.computing
instances =
    record {
      copy = refl;
      copy_last = refl;
      set_all = refl;
      write_some = refl;
      empty_wide = refl;
      empty_narrow = refl;
      padding = refl;
      dead_wide = refl;
      dead_narrow = refl;
      src_wraps = refl;
      dst_wraps = refl;
      wrong_gap = refl;
      too_few = refl;
      not_last = refl;
      empty_later = refl;
      dead_empty = refl;
      dead_first = refl;
      dead_kind = refl;
      mu_two = refl;
      half_out = refl;
      no_element = refl;
    }
