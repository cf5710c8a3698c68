-- `legs::decide`: the numbers of so many rows are few. Assumes nothing.
use Prim.Native.Nat.{◌^◌, ◌≤◌}
use native.Mathlib.Omega.{arith}
use lib.Dec.{lit≤}
use Rattle.records.proofs.RowCount.{row_count_le}
use Rattle.round_trip.proofs.legs.decide.Goals as goal

pub overflow_mul-rows : goal.overflow_mul-rows
overflow_mul-rows c =
    let few : c.row_count-rows.result ≤ 2 ^ 17 =
    rw c.row_count-rows.ensures (row_count_le c.args.n 17 (omega arith) (omega arith) (lit≤ tt)) in
    omega arith
