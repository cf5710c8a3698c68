-- Laws of the copy table, from those of all tables: what a made table says of its records, what each of its rows is, and what the
-- loop needs that writes the rows. Assumes nothing.
use mathlib.Core.Path.{◌≡◌, refl}
use mathlib.Core.Bool.{true}
use mathlib.Core.List.{List, ◌++◌}
use Prim.Native.Nat.{ℕ, zero, suc, ◌+◌, ◌-◌, ◌*◌, ◌≤◌, ◌<◌}
use native.Mathlib.Omega.{arith}
use lib.Dec.{lit≤}
use lib.ListN.{length, take, drop}
use Rattle.lists.proofs.Store.{store_none}
use Rattle.lists.proofs.Flat.{flat_none}
use Rattle.records.specs.Records.{record_count, record_at, first_bad}
use Rattle.records.specs.Table.{row_at, table_after}
use Rattle.records.specs.Table.{TableAnswer}
use Rattle.std.specs.Prelude.{Ok}
use Rattle.records.proofs.Records.{all_good, record_whole}
use Rattle.records.proofs.Table as tables
use Rattle.call.specs.Ops.{op_of, OP_WIDTH, good_op}
use Rattle.call.proofs.Ops.{good_whole}
use Rattle.copy_row.specs.Columns.{COLUMNS}
use Rattle.copy_row.specs.Rows.{table_row, padding_row}
use Rattle.copy_row.specs.Trace.{copy_row, copy_answer, copy_after}
use Rattle.copy_row.proofs.Rows.{copy_row_wide, padding_wide}

-- row k of the table of ops
abbrev pub copy_row_at : List ℕ → ℕ → List ℕ
copy_row_at ops k = row_at OP_WIDTH copy_row padding_row ops k

-- What a made table says of its records

module _ (limit : ℕ) (ops : List ℕ) (room rows : ℕ) (made : copy_answer limit ops room ≡ Ok rows) where
  pub made_facts : tables.MadeFacts limit COLUMNS (record_count OP_WIDTH ops) (first_bad OP_WIDTH good_op ops) room rows
  unfolding copy_answer
  made_facts = tables.made_facts _ _ _ _ _ rows made

  -- each record is good
  pub made_good : (k : ℕ) → k < record_count OP_WIDTH ops → good_op (record_at OP_WIDTH ops k) ≡ true
  made_good = all_good OP_WIDTH good_op ops made_facts.fine

  -- and the last one is whole
  pub made_whole : OP_WIDTH * record_count OP_WIDTH ops ≤ length ops
  made_whole = step (record_count OP_WIDTH ops) refl
    where
      step : (n : ℕ) → record_count OP_WIDTH ops ≡ n → OP_WIDTH * n ≤ length ops
      step zero e = omega arith
      step (suc m) e = omega (arith, record_whole OP_WIDTH ops m (lit≤ tt) (good_whole _ (made_good m (omega arith))))

-- The rows of a made table

module _ (ops : List ℕ) where
  -- a loop that writes the rows: no row at first, then one more
  pub no_rows : (table : List ℕ) → copy_after ops (Ok 0) table ≡ table
  unfolding copy_after table_after
  no_rows table = rw (flat_none, store_none)

  pub next_row : (table t written : List ℕ) (k : ℕ) → t ≡ copy_after ops (Ok k) table → written ≡ copy_row_at ops k
      → COLUMNS * k + COLUMNS ≤ length table
      → take (COLUMNS * k) t ++ (written ++ drop (COLUMNS * k + COLUMNS - COLUMNS * k) (drop (COLUMNS * k) t))
      ≡ copy_after ops (Ok (k + 1)) table
  unfolding copy_after table_after
  next_row table t written k q e fits =
      tables.rows_more COLUMNS OP_WIDTH copy_row padding_row copy_row_wide padding_wide ops table t written k q e fits

  -- the lent table keeps its length
  pub after_length : (answer : TableAnswer) (table : List ℕ) → length (copy_after ops answer table) ≡ length table
  unfolding copy_after
  after_length answer table = tables.after_length OP_WIDTH copy_row padding_row ops answer table

  -- row k
  pub made_row : (table : List ℕ) (rows k : ℕ) → COLUMNS * rows ≤ length table → k < rows
      → record_at COLUMNS (copy_after ops (Ok rows) table) k ≡ copy_row_at ops k
  unfolding copy_after
  made_row table rows k fits h =
      tables.made_row COLUMNS OP_WIDTH copy_row padding_row copy_row_wide padding_wide ops table rows k fits h

  -- row k is that of record k, and padding after the last record
  pub row_of_record : (k : ℕ) → k < record_count OP_WIDTH ops → copy_row_at ops k ≡ table_row (op_of (record_at OP_WIDTH ops k))
  row_of_record k h = tables.row_record OP_WIDTH copy_row padding_row ops k h

  pub row_of_none : (k : ℕ) → record_count OP_WIDTH ops ≤ k → copy_row_at ops k ≡ padding_row
  row_of_none k h = tables.row_padding OP_WIDTH copy_row padding_row ops k h
