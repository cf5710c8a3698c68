-- All that `callcheck` prints for an input, whatever its bytes and its length. Document 01: "It prints, for each live row: ..; then verdict
-- and row count. A refusal of the expansion is passed up unchanged: the whole output is `refused`, tab, number, tab, line number counted
-- from 1", "A gap that 7 refuses is refused so at line 1; a line of another form, or a missing line 1, is refused so with 10". A missing
-- line 1 reads as an empty one, which is of another form. Assumes nothing.
use Rattle.std.specs.Prelude.{◌≡◌, ℕ, ◌+◌, ◌*◌, ◌/◌, ◌^◌, ◌≤◌, ◌<◌, cond, Option, Some, None, List, [], ◌∷◌, ◌++◌, eqb, leb, length, take, replicate}
use Rattle.answer.specs.declared.Answer.{Answer}
use Rattle.records.specs.Records.{LIMIT}
use Rattle.records.specs.RowCount.{row_count}
use Rattle.records.specs.Table.{table_numbers}
use Rattle.call.specs.Ops.{op_record, OP_WIDTH}
use Rattle.expansion.specs.Tries.{under, Lent, lent}
use Rattle.copy_row.specs.Columns.{COLUMNS}
use Rattle.copy_row.specs.Trace.{copy_answer, copy_after}
use Rattle.copy_meaning.specs.ReadRow.{op_at}
use Rattle.chain.specs.Chain.{table_rows, chain_answer, chain_numbers}
use Rattle.read_back.specs.ReadBack.{live_rows}
use Rattle.text.specs.Pieces.{before, after}
use Rattle.text.specs.Lines.{lines, gap_of}
use Rattle.text.specs.RowLines.{row_text, rows_text, passed_text, refused_text}
use Rattle.callcheck_text.specs.Run.{ROWS, OPS_ROOM, ACCESSES_ROOM, Ending, done, refused, lines_from}

-- a table with room for 32 rows
abbrev pub TABLE_ROOM : ℕ
TABLE_ROOM = COLUMNS * ROWS

-- just the rows that the copy table's maker writes of these operation records
unfoldable pub checked_rows : List ℕ → List ℕ
checked_rows records =
    take (COLUMNS * (table_numbers 8 (copy_answer LIMIT records TABLE_ROOM)).value)
    (copy_after records (copy_answer LIMIT records TABLE_ROOM) (replicate TABLE_ROOM 0))

-- what the chain check answers of them under the gap
unfoldable pub verdict_of : ℕ → List ℕ → Answer
verdict_of gap records = chain_numbers (chain_answer gap (checked_rows records))

-- the verdict's line: `passed` and the row count. A refusal of the chain check names no line of the input; `VerdictPasses` says that
-- there is none
abbrev pub verdict_text : Answer → List ℕ
verdict_text a = cond (eqb a.number 0) (passed_text a.value) (refused_text a.number 0)

-- a line for each live row and the verdict; or the refusal alone
unfoldable pub ending_text : ℕ → Ending → List ℕ
ending_text gap (done records) = rows_text 0 (length records / OP_WIDTH) records ++ verdict_text (verdict_of gap records)
ending_text gap (refused number line) = refused_text number line

-- a window of 1,024 zero cells, and two buffers
abbrev pub start : Lent
start = lent (replicate 1024 0) (replicate 1024 0) (replicate OPS_ROOM 0) (replicate ACCESSES_ROOM 0)

-- goes on with the gap of line 1
abbrev pub on_gap : Option ℕ → (ℕ → List ℕ) → List ℕ
on_gap (Some gap) next = cond (leb (2 ^ 32) gap) (refused_text 7 1) (next gap)
on_gap None next = refused_text 10 1

-- the whole output
unfoldable pub output_of : List ℕ → List ℕ
output_of input = on_gap (gap_of (before 10 input)) (λ gap. ending_text gap (lines_from (under gap) 2 (lines (after 10 input)) start))

-- the first 2,995 bytes decide: an input that is longer has its lowest refused line among them
abbrev pub PrefixDecides : Type 0
PrefixDecides = (n : ℕ) (input : List ℕ) → 2995 ≤ n → output_of (take n input) ≡ output_of input

-- where no line is refused the verdict is `passed`, with the rows of the table
abbrev pub VerdictPasses : Type 0
VerdictPasses =
    (input records : List ℕ) (gap : ℕ) → gap_of (before 10 input) ≡ Some gap → gap < 2 ^ 32
    → lines_from (under gap) 2 (lines (after 10 input)) start ≡ done records
    → let rows = length records / OP_WIDTH in output_of input ≡ rows_text 0 rows records ++ passed_text (row_count rows)

-- the lines of these rows of a table, numbered from k on: of each, the operation record that is read off it
unfoldable pub row_lines : ℕ → List (List ℕ) → List ℕ
row_lines k [] = []
row_lines k (row ∷ rows) = row_text k (op_record (op_at row)) ++ row_lines (k + 1) rows

-- "It prints, for each live row: ..; then verdict and row count": by the table made of these operation records
pub record RowsPrinted (input records : List ℕ) : Type 0 where
  -- line k is that of live row k; behind the lines stand the verdict and the number of rows
  pub output : let rows = table_rows (checked_rows records) in output_of input ≡ row_lines 0 (live_rows rows) ++ passed_text (length rows)
  -- and live row k is row k of the table: no dead row stands before it
  pub in_front_lem : let rows = table_rows (checked_rows records) in take (length (live_rows rows)) rows ≡ live_rows rows

-- so it is where no line is refused, the records being those of all calls
abbrev pub LiveRowsPrinted : Type 0
LiveRowsPrinted =
    (input records : List ℕ) (gap : ℕ) → gap_of (before 10 input) ≡ Some gap → gap < 2 ^ 32
    → lines_from (under gap) 2 (lines (after 10 input)) start ≡ done records
    → RowsPrinted input records
