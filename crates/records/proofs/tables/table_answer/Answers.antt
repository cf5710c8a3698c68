-- `records::tables::table_answer`: at most 2^20 records have at most 2^20 rows, so the product of row width and row count fits. Assumes
-- nothing.
use Rattle.std.proofs.Common.{◌*◌, ◌^◌, ◌≤◌, arith}
use native.Mathlib.Nat.{mul-le-mul}
use lib.Dec.{lit≤}
use Rattle.records.proofs.RowCount.{row_count_le}
use Rattle.records.proofs.tables.table_answer.Goals as goal

pub overflow_mul-v : goal.overflow_mul-v
overflow_mul-v c =
    let few : c.row_count-rows.result ≤ 2 ^ 20 =
    rw c.row_count-rows.ensures (row_count_le c.args.n 20 (omega arith) (omega arith) (lit≤ tt)) in
    let small : c.args.v * c.row_count-rows.result ≤ 64 * 2 ^ 20 = mul-le-mul c.requires.1 few in
    omega arith
