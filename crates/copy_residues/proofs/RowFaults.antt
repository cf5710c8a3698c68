-- The four things that the checks of a row of 41 numbers can find, by the searches that find them, and what it is to find nothing.
-- Document 01: "then row by row 14 to 17". Assumes nothing.
use mathlib.Core.Path.{◌≡◌}
use mathlib.Core.List.{List}
use Prim.Native.Nat.{ℕ, ◌≤◌, ◌<◌}
use native.Mathlib.Omega.{arith}
use borrow.Author.Tests.{lt-ltb, le-ltb}
use lib.ListN.{length}
use Rattle.std.specs.Prelude.{Ok, Err}
use Rattle.field.specs.Rows.{first_large}
use Rattle.copy_row.specs.Columns.{COLUMNS}
use Rattle.copy_residues.specs.Range.{first_out}
use Rattle.copy_residues.specs.Residues.{RESIDUES}
use Rattle.copy_residues.specs.RowCheck.{first_residue, row_fault}
use Rattle.copy_residues.specs.declared.faults.RowCheckRefusal.TheVariants.{NotElement, OutOfRange, NotZero}

module _ (gap : ℕ) (row : List ℕ) (wide : length row ≡ COLUMNS) where
  pub not_element : first_large row < COLUMNS → row_fault gap row ≡ Err NotElement
  unfolding row_fault
  not_element h = rw (lt-ltb (first_large row) (length row) (omega arith))

  pub out_of_range : COLUMNS ≤ first_large row → first_out row < COLUMNS → row_fault gap row ≡ Err OutOfRange
  unfolding row_fault
  out_of_range h k = rw (le-ltb (first_large row) (length row) (omega arith), lt-ltb (first_out row) COLUMNS k)

  pub not_zero_lem : COLUMNS ≤ first_large row → COLUMNS ≤ first_out row → first_residue gap row < RESIDUES
      → row_fault gap row ≡ Err (NotZero (first_residue gap row))
  unfolding row_fault
  not_zero_lem h k l =
      rw (le-ltb (first_large row) (length row) (omega arith), le-ltb (first_out row) COLUMNS k, lt-ltb (first_residue gap row) RESIDUES l)

  pub fine : COLUMNS ≤ first_large row → COLUMNS ≤ first_out row → RESIDUES ≤ first_residue gap row → row_fault gap row ≡ Ok tt
  unfolding row_fault
  fine h k l =
      rw (le-ltb (first_large row) (length row) (omega arith), le-ltb (first_out row) COLUMNS k, le-ltb (first_residue gap row) RESIDUES l)
