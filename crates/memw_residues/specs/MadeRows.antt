-- The theorem on made rows. Document 01: "Every made row of these three tables zeroes its residues."
-- `made_rows_zero_holds` carries it. Assumes nothing.
use Rattle.std.specs.Prelude.{◌≡◌, List, ℕ, ◌<◌, length, Ok}
use Rattle.records.specs.Records.{record_at}
use Rattle.memw.specs.Tables.{row_width, memw_answer, memw_after}
use Rattle.access.specs.declared.AccessTable.{AccessTable}
use Rattle.memw_residues.specs.Residues.{residue_count, table_residue}

-- whatever the records and the lent table: where a table of `rows` rows is made, each residue of each of its rows is 0
unfoldable pub MadeRowsZero : Type 0
MadeRowsZero =
    (t : AccessTable) (limit : ℕ) (records table : List ℕ) (rows : ℕ) → memw_answer t limit records (length table) ≡ Ok rows
    → (k : ℕ) → k < rows → (number : ℕ) → number < residue_count t
    → table_residue t (record_at (row_width t) (memw_after t records (Ok rows) table) k) number ≡ 0
