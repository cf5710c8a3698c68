-- The instances hold, by computing. Assumes nothing.
use mathlib.Core.Path.{refl}
use native.Mathlib.Omega.{arith}
use Rattle.words.proofs.Digits.{below_same}
use Rattle.calls_in_turn.proofs.Computing as made
use Rattle.read_back.proofs.Computing as judged
use Rattle.round_trip.specs.Trip.{steps_numbers, trip_numbers, trip_run, trip_after}
use Rattle.round_trip.specs.RoundTrip.{TypedTrip}
use Rattle.round_trip.specs.Instances.{trip_with, Instances}

typed : TypedTrip (trip_with 49 165 49 11)
typed =
    record {
      gap = omega arith;
      bytes = below_same 8 32 3 (omega arith);
    }

pub instances : Instances
unfolding made.computing judged.computing steps_numbers trip_numbers trip_run trip_after
instances =
    record {
      typed = typed;
      through = refl;
      calls = refl;
      fewer = refl;
      none = refl;
      cut = refl;
      cut_kept = refl;
      table_short = refl;
      ops_short = refl;
      calls_short = refl;
    }
