-- The small entries, computed. Assumes nothing.
use mathlib.Core.Path.{refl}
use Rattle.rights.specs.Instances.{Instances}
use Rattle.rights.proofs.Computing as rights

pub instances : Instances
unfolding rights.computing
instances =
    record {
      touching = refl;
      one_short = refl;
      gap = refl;
      other_party = refl;
      copy = refl;
      copy_past = refl;
      write = refl;
      write_source = refl;
      good = refl;
      seventeen = refl;
      sixteen = refl;
      past = refl;
      wrapped = refl;
      first_21 = refl;
      own_party = refl;
      entry_party = refl;
      read_two = refl;
      write_two = refl;
      cut = refl;
    }
