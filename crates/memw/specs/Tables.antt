-- The three access tables: access records to 49-number or 29-number rows, register records to 10-number rows, at most `limit` records
-- (65,536 for callers). Document 01: "Padding is 0 everywhere; rows are counted and placed as in the copy table." Assumes nothing.
use Rattle.std.specs.Prelude.{ℕ, Bool, List, length, replicate}
use Rattle.answer.specs.declared.Answer.{Answer}
use Rattle.records.specs.Records.{record_count, first_bad}
use Rattle.records.specs.Table.{table_answer, table_after, TableDone}
use Rattle.records.specs.Table.{TableAnswer}
use Rattle.access.specs.Access.{access_of, good_access}
use Rattle.access.specs.RegisterRecord.{good_register}
use Rattle.access.specs.Tables.{record_width}
use Rattle.access.specs.declared.AccessTable.{AccessTable}
use Rattle.access.specs.declared.AccessTable.TheVariants.{General, Aligned, Register}
use Rattle.memw.specs.MemwColumns as general
use Rattle.memw.specs.AlignedColumns as aligned
use Rattle.memw.specs.RegisterColumns as register
use Rattle.memw.specs.Rows.{memw_row, aligned_row, register_row, reg_row_of}

-- numbers in a row
abbrev pub row_width : AccessTable → ℕ
row_width General = general.COLUMNS
row_width Aligned = aligned.COLUMNS
row_width Register = register.COLUMNS

-- whether a record is whole and each field is among its values
abbrev pub good_record : AccessTable → List ℕ → Bool
good_record General r = good_access r
good_record Aligned r = good_access r
good_record Register r = good_register r

-- the row of a record's numbers
abbrev pub record_row : AccessTable → List ℕ → List ℕ
record_row General r = memw_row (access_of r)
record_row Aligned r = aligned_row (access_of r)
record_row Register r = register_row (reg_row_of r)

-- a padding row
abbrev pub table_padding : AccessTable → List ℕ
table_padding t = replicate (row_width t) 0

-- what the maker of a table answers, and its lent table afterwards
unfoldable pub memw_answer : AccessTable → ℕ → List ℕ → ℕ → TableAnswer
memw_answer t limit records room =
    table_answer limit (row_width t) (record_count (record_width t) records) (first_bad (record_width t) (good_record t) records) room

unfoldable pub memw_after : AccessTable → List ℕ → TableAnswer → List ℕ → List ℕ
memw_after t records answer table = table_after (record_width t) (record_row t) (table_padding t) records answer table

-- what a maker has to show, lent a table: `over` is the number of the refusal of more than `limit` records
abbrev pub MemwDone : AccessTable → ℕ → ℕ → List ℕ → List ℕ → Answer → List ℕ → Type 0
MemwDone t limit over records table = TableDone over (memw_answer t limit records (length table)) (λ a. memw_after t records a table)
