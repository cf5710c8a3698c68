-- The row check's answer by what is found, and each fault has a number. Assumes nothing.
use Rattle.std.proofs.Common.{◌≡◌, ℕ, ◌^◌, ◌≤◌, ◌<◌, List, length, false, eqb, refl, le-leb, eq-eqb, ne_eqb}
use Rattle.std.specs.Prelude.{Err}
use borrow.Author.Tests.{lt-leb}
use Rattle.copy_row.specs.Columns.{COLUMNS}
use Rattle.copy_residues.specs.RowCheck.{row_fault}
use Rattle.copy_residues.specs.declared.faults.RowCheckRefusal.{RowCheckRefusal}
use Rattle.copy_residues.specs.declared.faults.RowCheckRefusal.TheVariants.{NotElement, OutOfRange, NotZero}
use Rattle.row_check.specs.RowAnswer.{on_fault, row_answer, fault_numbers}
use Rattle.row_check.specs.declared.RowRefused.TheVariants.{GapTooLarge, NotRow}

pub fault_numbered : (place : ℕ) (why : RowCheckRefusal) → eqb (fault_numbers place why).number 0 ≡ false
fault_numbered place NotElement = refl
fault_numbered place OutOfRange = refl
fault_numbered place (NotZero index) = refl

module _ (gap : ℕ) (row : List ℕ) where
  pub gap_large : 2 ^ 32 ≤ gap → row_answer gap row ≡ Err GapTooLarge
  unfolding row_answer
  gap_large h = rw (le-leb (2 ^ 32) gap h)

  module _ (h : gap < 2 ^ 32) where
    pub not_row : (length row ≡ COLUMNS → ⊥) → row_answer gap row ≡ Err NotRow
    unfolding row_answer
    not_row n = rw (lt-leb (2 ^ 32) gap h, ne_eqb (length row) COLUMNS n)

    pub judged : length row ≡ COLUMNS → row_answer gap row ≡ on_fault row (row_fault gap row)
    unfolding row_answer
    judged wide = rw (lt-leb (2 ^ 32) gap h, eq-eqb (length row) COLUMNS wide)
