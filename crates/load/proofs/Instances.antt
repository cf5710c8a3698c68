-- The instances hold, by computing. Assumes nothing.
use mathlib.Core.Path.{refl}
use Rattle.load.specs.Instances.{Instances}
use Rattle.load.proofs.Computing as load

pub instances : Instances
unfolding load.computing
instances =
    record {
      six = refl;
      four = refl;
      most = refl;
      over = refl;
      over_first = refl;
      top = refl;
      short = refl;
      none = refl;
      past = refl;
      kept = refl;
    }
