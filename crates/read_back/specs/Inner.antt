-- Reading operation records and reading calls: what each takes of a row. Cited by the contracts of inner functions alone.
-- Assumes nothing.
use Rattle.std.specs.Prelude.{◌≡◌, ℕ, ◌*◌, ◌%◌, Bool, true, false, cond, ◌&&◌, leb, length}
use mathlib.Core.List.{List, flat_map}
use Rattle.lists.specs.Lists.{All, kept}
use Rattle.call.specs.Ops.{op_record, OP_WIDTH}
use Rattle.call.specs.Flat.{call_numbers, CALL_WIDTH}
use Rattle.copy_row.specs.Columns.{COLUMNS}
use Rattle.copy_meaning.specs.ReadRow.{call_at, op_at}
use Rattle.row_test.specs.Inner.{Caps}
use Rattle.chain.specs.Chain.{table_rows}
use Rattle.read_back.specs.ReadBack.{is_live, is_opening}
use Rattle.read_back.specs.declared.Counts.{Counts}

-- whether a row is read, what of it, and how many numbers that is
abbrev pub is_read : Bool → List ℕ → Bool
is_read calls row = cond calls (is_opening row) (is_live row)

abbrev pub numbers_of : Bool → List ℕ → List ℕ
numbers_of calls row = cond calls (call_numbers (call_at row)) (op_record (op_at row))

abbrev pub width_of : Bool → ℕ
width_of calls = cond calls CALL_WIDTH OP_WIDTH

-- the rows that are read, and all numbers of them
unfoldable pub rows_read : Bool → List ℕ → List (List ℕ)
rows_read calls l = kept (is_read calls) (table_rows l)

unfoldable pub numbers_read : Bool → List ℕ → List ℕ
numbers_read calls l = flat_map (numbers_of calls) (rows_read calls l)

-- how many rows are read of a list
pub record CountsOf (l : List ℕ) (counts : Counts) : Type 0 where
  pub is_ops : counts.ops ≡ length (rows_read false l)
  pub is_calls : counts.calls ≡ length (rows_read true l)

-- whether buffers of so many numbers hold what is read of it
unfoldable pub holds_read : List ℕ → ℕ → ℕ → Bool
holds_read l opsRoom callsRoom =
    leb (OP_WIDTH * length (rows_read false l)) opsRoom && leb (CALL_WIDTH * length (rows_read true l)) callsRoom

-- a list of whole rows, the columns of each below their caps
pub record RowsFit (l : List ℕ) : Type 0 where
  pub whole : length l % COLUMNS ≡ 0
  pub caps : All Caps (table_rows l)
