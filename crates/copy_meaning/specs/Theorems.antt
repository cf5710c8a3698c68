-- What is proved of one copy row: the theorems of this crate, collected. `RowIff` is the per-row half of demand 3. Assumes nothing.
use Rattle.std.specs.Prelude.{◌≡◌, ◌↔◌, List, ℕ, ◌^◌, ◌<◌, length, Ok}
use Rattle.call.specs.Calls.{Op}
use Rattle.call.specs.Cuts.{FitsTypes, PieceOk}
use Rattle.copy_row.specs.Columns.{COLUMNS}
use Rattle.copy_row.specs.Rows.{wrapped, row_of, table_row, padding_row}
use Rattle.copy_residues.specs.RowCheck.{row_fault}
use Rattle.copy_meaning.specs.Steps.{LiveStep}
use Rattle.copy_meaning.specs.ReadRow.{op_at, next_at}
use Rattle.copy_meaning.specs.Plain.{Plain}
use Rattle.copy_meaning.specs.RowIff.{RowIff, InRange, CallRowIs, NeverFree, OneFilling}
use Rattle.copy_meaning.specs.Instances.{Instances}

pub record RowMeaning : Type 0 where
  -- a row has no fault exactly if it is the row of its record, and the record meets the conditions of its step
  pub row_iff : RowIff
  -- and exactly if it is in range and its parts say in plain numbers what Plain.antt has
  pub plain_iff : (gap : ℕ) → gap < 2 ^ 32 → (row : List ℕ) → length row ≡ COLUMNS → (row_fault gap row ≡ Ok tt) ↔ (InRange row × Plain gap row)
  -- so the table row of a record that meets the live conditions passes, and padding passes
  pub live_passes : (gap : ℕ) (o : Op) → gap < 2 ^ 32 → LiveStep gap o → row_fault gap (table_row o) ≡ Ok tt
  pub padding_passes : (gap : ℕ) → gap < 2 ^ 32 → row_fault gap padding_row ≡ Ok tt
  -- what is read off a made row is its record, and what the row hands on is what the record's wrapped sums say
  pub op_back : (mu : ℕ) (o : Op) → FitsTypes o.call → PieceOk o.piece → op_at (row_of mu o) ≡ o
  pub next_back : (mu : ℕ) (o : Op) → FitsTypes o.call → next_at (row_of mu o) ≡ wrapped o
  -- DST_RES is never free, so document 01's exception has no instance
  pub never_free : NeverFree
  pub call_row : CallRowIs
  pub one_filling : OneFilling
  -- rows that pass and rows that do not
  pub instances : Instances
