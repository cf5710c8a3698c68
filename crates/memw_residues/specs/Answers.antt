-- What asking for a residue of an access table's row answers. Document 01: "operands and residues 7, 12, 13, 14" (these have no gap, so no
-- 7); 12 where the table has no residue of this number. Assumes nothing.
use Rattle.std.specs.Prelude.{ℕ, List, ltb, Result, Ok, Err}
use Rattle.answer.specs.Numbers.{accepted}
use Rattle.answer.specs.declared.Answer.{Answer}
use Rattle.field.specs.Rows.{row_verdict, on_row, row_refusal_numbers}
use Rattle.field.specs.declared.rows.RowRefusal.{RowRefusal}
use Rattle.memw.specs.Tables.{row_width}
use Rattle.access.specs.declared.AccessTable.{AccessTable}
use Rattle.memw_residues.specs.Residues.{residue_count, table_residue}

-- residue `number` of a row, or the first refusal that applies
unfoldable pub memw_residue_answer : AccessTable → List ℕ → ℕ → Result ℕ RowRefusal
memw_residue_answer t row number =
    on_row (row_verdict (ltb number (residue_count t)) (row_width t) row) Err (Ok (table_residue t row number))

-- document 01's number, place and value of each case
abbrev pub memw_residue_numbers : Result ℕ RowRefusal → Answer
memw_residue_numbers (Ok v) = accepted v
memw_residue_numbers (Err why) = row_refusal_numbers why
