-- How wide rows are: every row of an operation record, and padding, has 41 numbers. Assumes nothing.
use mathlib.Core.Path.{◌≡◌, refl}
use mathlib.Core.List.{List}
use Prim.Native.Nat.{ℕ}
use lib.ListN.{length}
use Rattle.call.specs.Calls.{Op}
use Rattle.call.specs.Ops.{op_of}
use Rattle.copy_row.specs.Columns.{COLUMNS}
use Rattle.copy_row.specs.Rows.{row_of, padding_row}
use Rattle.copy_row.specs.Trace.{copy_row}

pub row_wide : (mu : ℕ) (o : Op) → length (row_of mu o) ≡ COLUMNS
unfolding row_of
row_wide mu o = refl

pub copy_row_wide : (r : List ℕ) → length (copy_row r) ≡ COLUMNS
copy_row_wide r = row_wide 1 (op_of r)

pub padding_wide : length padding_row ≡ COLUMNS
unfolding padding_row
padding_wide = refl
