-- The per-row half of demand 3: a row has nothing wrong exactly if it is the row of the record read off it and that record meets the
-- plain-number conditions, live or dead. And document 01's clause on DST_RES. Assumes nothing.
use Rattle.std.specs.Prelude.{◌≡◌, ◌⊎◌, ◌↔◌, List, ℕ, ◌^◌, ◌<◌, ◌≤◌, length, get_or, Ok}
use Rattle.lists.specs.Lists.{at}
use Rattle.call.specs.Calls.{Op}
use Rattle.copy_row.specs.Columns.{DST_RES, FIRST, MU, COLUMNS}
use Rattle.copy_row.specs.Rows.{row_of, table_row}
use Rattle.copy_residues.specs.Range.{column_limits}
use Rattle.copy_residues.specs.Residues.{residue, RESIDUES}
use Rattle.copy_residues.specs.RowCheck.{row_fault}
use Rattle.copy_meaning.specs.Steps.{RowStep}
use Rattle.copy_meaning.specs.ReadRow.{op_at}

abbrev pub RowIff : Type 0
RowIff =
    (gap : ℕ) → gap < 2 ^ 32 → (row : List ℕ) → length row ≡ COLUMNS
    → (row_fault gap row ≡ Ok tt) ↔ ((row ≡ row_of (at row MU) (op_at row)) × RowStep gap (at row MU) (op_at row))

-- every column of a row is in range
abbrev pub InRange : List ℕ → Type 0
InRange row = (c : ℕ) → c < COLUMNS → at row c < get_or column_limits c 0

-- two rows agree but for the four halves of DST_RES
abbrev pub BesidesDstRes : List ℕ → List ℕ → Type 0
BesidesDstRes row other = (c : ℕ) → (c < DST_RES) ⊎ (FIRST ≤ c) → at row c ≡ at other c

-- residue i of a row depends on DST_RES: some other filling of the four halves changes it
pub record DependsOnDstRes (gap : ℕ) (row : List ℕ) (i : ℕ) : Type 0 where
  pub other : List ℕ
  pub wide : length other ≡ COLUMNS
  pub range : InRange other
  pub besides : BesidesDstRes row other
  pub differs : residue gap row i ≡ residue gap other i → ⊥

-- document 01: "A call's row is in range and is the table row of its operation record, except that where no residue of the row depends
-- on DST_RES those four halves are free"
pub record CallRow (gap : ℕ) (o : Op) (row : List ℕ) : Type 0 where
  pub wide : length row ≡ COLUMNS
  pub range : InRange row
  pub same :
      (row ≡ table_row o)
      ⊎ (BesidesDstRes row (table_row o) × ((i : ℕ) → i < RESIDUES → DependsOnDstRes gap row i → ⊥))

-- the exception has no instance, so a call's row is plainly its table row
abbrev pub CallRowIs : Type 0
CallRowIs = (gap : ℕ) (o : Op) (row : List ℕ) → CallRow gap o row → row ≡ table_row o

-- the exception has no instance since each row in range has a residue that depends on DST_RES: 16 where IS_WRITE is not 0, else 18
abbrev pub NeverFree : Type 0
NeverFree =
    (gap : ℕ) (row : List ℕ) → length row ≡ COLUMNS → InRange row → DependsOnDstRes gap row 16 ⊎ DependsOnDstRes gap row 18

-- and where a row passes, no other filling of the four halves does
abbrev pub OneFilling : Type 0
OneFilling =
    (gap : ℕ) → gap < 2 ^ 32 → (row other : List ℕ) → length row ≡ COLUMNS → length other ≡ COLUMNS → BesidesDstRes row other
    → row_fault gap row ≡ Ok tt → row_fault gap other ≡ Ok tt → row ≡ other
