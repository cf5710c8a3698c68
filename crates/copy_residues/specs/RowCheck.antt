-- What one copy row is found to be: document 01's checks 14, 15 and 16 in their order. Assumes nothing.
use Rattle.std.specs.Prelude.{ℕ, cond, not, List, ltb, eqb, length, Result, Ok, Err}
use Rattle.lists.specs.Lists.{first}
use Rattle.field.specs.Rows.{first_large}
use Rattle.copy_row.specs.Columns.{COLUMNS}
use Rattle.copy_residues.specs.Range.{first_out}
use Rattle.copy_residues.specs.Residues.{residue, RESIDUES}
use Rattle.copy_residues.specs.declared.faults.RowCheckRefusal.{RowCheckRefusal}
use Rattle.copy_residues.specs.declared.faults.RowCheckRefusal.TheVariants.{NotElement, OutOfRange, NotZero}

-- the lowest index of a residue that is not 0, or 40
unfoldable pub first_residue : ℕ → List ℕ → ℕ
first_residue gap row = first (λ i. not (eqb (residue gap row i) 0)) 0 RESIDUES

-- the first check that fails on a row: all 41 numbers are judged by 14 before any is judged by 15
unfoldable pub row_fault : ℕ → List ℕ → Result (Unit {0}) RowCheckRefusal
row_fault gap row =
    cond (ltb (first_large row) (length row)) (Err NotElement)
    (cond (ltb (first_out row) COLUMNS) (Err OutOfRange)
    (cond (ltb (first_residue gap row) RESIDUES) (Err (NotZero (first_residue gap row))) (Ok tt)))
