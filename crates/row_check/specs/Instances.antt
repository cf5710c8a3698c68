-- A row for each answer of the row check, computed over the definitions. Assumes nothing.
use Rattle.std.specs.Prelude.{◌≡◌, List, [], ◌++◌, ℕ, ◌-◌, ◌^◌, set, take, Ok, Err}
use Rattle.field.specs.Field.{p}
use Rattle.copy_row.specs.Columns.{VALUE, SRC_INCR, MU_COM_WIDE}
use Rattle.copy_row.specs.Rows.{row_of, table_row, padding_row}
use Rattle.copy_residues.specs.declared.faults.RowCheckRefusal.TheVariants.{NotElement, OutOfRange, NotZero}
use Rattle.copy_meaning.specs.Instances.{op}
use Rattle.row_check.specs.RowAnswer.{row_answer}
use Rattle.row_check.specs.declared.RowRefused.TheVariants.{GapTooLarge, NotRow, Row}

-- the first row of a Copy of nine bytes
abbrev pub row : List ℕ
row = table_row (op 0 0 16 9 8 1 0)

pub record Instances : Type 0 where
  -- rows that pass alone though they could not stand so: one with more to come, one without FIRST; an empty call's; and dead ones
  pub first : row_answer 8 row ≡ Ok tt
  pub later : row_answer 8 (table_row (op 0 8 24 1 1 0 1)) ≡ Ok tt
  pub empty : row_answer 8 (table_row (op 2 0 0 0 1 1 1)) ≡ Ok tt
  pub padding : row_answer 8 padding_row ≡ Ok tt
  pub dead : row_answer 8 (row_of 0 (op 0 5 0 8 8 0 0)) ≡ Ok tt
  -- 7, before 13
  pub gap : row_answer (2 ^ 32) row ≡ Err GapTooLarge
  pub gap_first : row_answer (2 ^ 32) [] ≡ Err GapTooLarge
  -- 13: no number, one too few, two rows; before 14
  pub none : row_answer 8 [] ≡ Err NotRow
  pub short : row_answer 8 (take 40 row) ≡ Err NotRow
  pub two_rows : row_answer 8 (row ++ row) ≡ Err NotRow
  pub row_first : row_answer 8 (set (row ++ row) VALUE p) ≡ Err NotRow
  -- 14, at the lowest number that is no element; before 15
  pub element : row_answer 8 (set (set row MU_COM_WIDE p) SRC_INCR p) ≡ Err (Row SRC_INCR NotElement)
  pub element_first : row_answer 8 (set (set row MU_COM_WIDE p) SRC_INCR 65537) ≡ Err (Row MU_COM_WIDE NotElement)
  -- 15, at row 0; before 16
  pub range : row_answer 8 (set row SRC_INCR 65537) ≡ Err (Row 0 OutOfRange)
  pub range_first : row_answer 8 (set (row_of 2 (op 0 0 16 9 8 1 0)) VALUE 256) ≡ Err (Row 0 OutOfRange)
  -- 16, with the lowest residue that is not 0: of a live row, of a dead one, and the last residue
  pub residue : row_answer 8 (row_of 2 (op 0 0 16 9 8 1 0)) ≡ Err (Row 0 (NotZero 3))
  pub dead_residue : row_answer 8 (row_of 0 (op 2 0 16 9 8 0 0)) ≡ Err (Row 0 (NotZero 8))
  pub last_residue : row_answer 16 (table_row (op 1 (2 ^ 64 - 16) 0 8 8 1 1)) ≡ Err (Row 0 (NotZero 39))
