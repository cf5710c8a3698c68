-- The copy table: 16-number operation records to 41-number rows, at most `limit` records (65,536 for callers). Assumes nothing.
use Rattle.std.specs.Prelude.{ℕ, List, length}
use Rattle.answer.specs.declared.Answer.{Answer}
use Rattle.records.specs.Records.{record_count, first_bad}
use Rattle.records.specs.Table.{table_answer, table_after, TableDone}
use Rattle.records.specs.Table.{TableAnswer}
use Rattle.call.specs.Ops.{good_op, OP_WIDTH, op_of}
use Rattle.copy_row.specs.Columns.{COLUMNS}
use Rattle.copy_row.specs.Rows.{table_row, padding_row}

-- the row of 16 numbers
abbrev pub copy_row : List ℕ → List ℕ
copy_row r = table_row (op_of r)

-- what `generate_copy_trace` answers, and its lent table afterwards
unfoldable pub copy_answer : ℕ → List ℕ → ℕ → TableAnswer
copy_answer limit ops room =
    table_answer limit COLUMNS (record_count OP_WIDTH ops) (first_bad OP_WIDTH good_op ops) room

unfoldable pub copy_after : List ℕ → TableAnswer → List ℕ → List ℕ
copy_after ops answer table = table_after OP_WIDTH copy_row padding_row ops answer table

-- what a maker has to show, lent a table: `over` is the number of the refusal of more than `limit` records
abbrev pub CopyDone : ℕ → ℕ → List ℕ → List ℕ → Answer → List ℕ → Type 0
CopyDone limit over ops table = TableDone over (copy_answer limit ops (length table)) (λ a. copy_after ops a table)
