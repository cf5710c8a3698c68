-- The answers of `residue` in document 01's order: 7, or what the row is found to be; where nothing is refused, the row is of elements and
-- the number is a residue's. Assumes nothing.
use Rattle.std.proofs.Common.{◌≡◌, ℕ, ◌^◌, ◌≤◌, ◌<◌, List, ltb, le-leb, ltb-true}
use Rattle.std.specs.Prelude.{Ok, Err}
use borrow.Author.Tests.{lt-leb}
use Rattle.field.specs.Rows.{row_verdict}
use Rattle.field.specs.declared.rows.RowRefusal.{RowRefusal}
use Rattle.field.proofs.Verdicts.{is_fine}
use Rattle.copy_row.specs.Columns.{COLUMNS}
use Rattle.copy_residues.specs.Residues.{residue, RESIDUES}
use Rattle.copy_residues.specs.Answers.{residue_answer}
use Rattle.copy_residues.specs.declared.ResidueRefusal.TheVariants.{GapTooLarge, Row}

module _ (gap : ℕ) (row : List ℕ) (i : ℕ) where
  pub gap_too_large_lem : 2 ^ 32 ≤ gap → residue_answer gap row i ≡ Err GapTooLarge
  unfolding residue_answer
  gap_too_large_lem g = simp (le-leb (2 ^ 32) gap g)

  pub refused : gap < 2 ^ 32 → (why : RowRefusal) → row_verdict (ltb i RESIDUES) COLUMNS row ≡ Err why → residue_answer gap row i ≡ Err (Row why)
  unfolding residue_answer
  refused g why e = simp (lt-leb (2 ^ 32) gap g, e)

  pub found : gap < 2 ^ 32 → row_verdict (ltb i RESIDUES) COLUMNS row ≡ Ok tt → residue_answer gap row i ≡ Ok (residue gap row i)
  unfolding residue_answer
  found g e = simp (lt-leb (2 ^ 32) gap g, e)

pub number_of : (row : List ℕ) (i : ℕ) → row_verdict (ltb i RESIDUES) COLUMNS row ≡ Ok tt → i < RESIDUES
number_of row i e = ltb-true _ _ (is_fine _ _ _ e).is_inside
