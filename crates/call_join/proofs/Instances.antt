-- The small lists, computed. Assumes nothing.
use mathlib.Core.Path.{refl}
use Prim.Native.Nat.{ℕ, zero, suc, ◌≤◌, ◌<◌}
use native.Mathlib.Omega.{arith}
use lib.Dec.{lit≤, lit<}
use Rattle.call_join.specs.Join.{call_records}
use Rattle.call_join.specs.JoinLaws.{stamp_in}
use Rattle.call_join.specs.Instances.{Instances, day, falls_late}
use Rattle.call_join.proofs.Order.{in_order_of}
use Rattle.call_join.proofs.Computing as join

late : (k : ℕ) → suc k < 2 → stamp_in (call_records falls_late) k ≤ stamp_in (call_records falls_late) (suc k)
unfolding join.computing
late zero h = lit≤ tt
late (suc k) h = absurd (omega arith)

pub instances : Instances
unfolding join.computing
instances =
    record {
      six = refl;
      served = refl;
      turned = refl;
      just_enough = refl;
      short = refl;
      kept = refl;
      no_first = refl;
      no_second = refl;
      none = refl;
      over_first = refl;
      over_second = refl;
      cut_over = refl;
      kind_three = refl;
      cut = refl;
      falls_first = refl;
      falls_second = refl;
      no_wrap_lem = refl;
      eight_before_ten = refl;
      eight_before_twenty = refl;
      ten_before_twenty = refl;
      two_bad = refl;
      two_fall = refl;
      twenty_before_nine = refl;
      eight = refl;
      ten = refl;
      twenty = refl;
      nine = refl;
      six_calls = refl;
      admitted = record { few = lit≤ tt; good = (refl, (refl, (refl, tt))) };
      in_order = in_order_of day (lit≤ tt);
      out_of_order = record { before = 1; later = refl; inside = lit< tt; below = lit< tt; none_earlier = late };
      day_step = refl;
      evening_step = refl;
      meets_4 = refl;
      met_alone = refl;
      behind = refl;
    }
