-- The instances hold, by computing. Assumes nothing.
use mathlib.Core.Path.{refl}
use native.Mathlib.Omega.{arith}
use lib.Dec.{lit≤}
use Rattle.words.proofs.Digits.{below_same}
use Rattle.load.proofs.Computing as load
use Rattle.read_back.proofs.Computing as judged
use Rattle.calls_in_turn.proofs.Computing as made
use Rattle.load_accepted.specs.LoadAccepted.{CELLS, LongForAll}
use Rattle.load_accepted.specs.Instances.{three, slices, Instances}

three_long : LongForAll three (slices 48 58)
unfolding load.computing made.computing
three_long =
    record {
      window = record { cells = refl; stamped = refl };
      ops = lit≤ tt;
      accesses = (lit≤ tt, (lit≤ tt, (lit≤ tt, tt)));
    }

pub instances : Instances
unfolding load.computing judged.computing made.computing
instances =
    record {
      calls = refl;
      long = three_long;
      bytes = below_same 8 CELLS 3 (omega arith);
      made = refl;
      passes = refl;
      back = refl;
      other_gap = refl;
      small_window_lem = refl;
      short = refl;
    }
