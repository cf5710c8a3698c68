-- A list of records becomes a table: row k of record k, padding after the last record, row k in numbers v * k to v * k + v - 1 of the
-- lent table. Record width w, row width v, limit on the records, test of a record, row of a record and padding are parameters, so all
-- tables share these definitions and their laws. Document 01: "tables and routing 8, 10, 11, 9". Assumes nothing.
use Rattle.std.specs.Prelude.{◌≡◌, ℕ, ◌*◌, cond, List, ltb, leb, Result, Ok, Err}
use Rattle.answer.specs.Numbers.{accepted, refused}
use Rattle.answer.specs.declared.Answer.{Answer}
use Rattle.lists.specs.Lists.{store, flat}
use Rattle.records.specs.Records.{record_count, record_at}
use Rattle.records.specs.RowCount.{row_count}
use Rattle.records.specs.declared.TableRefusal.{TableRefusal}
use Rattle.records.specs.declared.TableRefusal.TheVariants.{TooManyRecords, BadRecord, BufferShort}

-- what a table maker answers: how many rows there are, or why there is no table
abbrev pub TableAnswer : Type 0
TableAnswer = Result ℕ TableRefusal

-- the answer for n records, at most `limit` of them allowed, of which `bad` is the lowest index of a refused one (n where none is), rows of v
-- numbers, and a lent table of `room` numbers
unfoldable pub table_answer : ℕ → ℕ → ℕ → ℕ → ℕ → TableAnswer
table_answer limit v n bad room =
    cond (ltb limit n) (Err TooManyRecords)
    (cond (ltb bad n) (Err (BadRecord bad))
    (cond (leb (v * row_count n) room) (Ok (row_count n)) (Err BufferShort)))

-- row k: that of record k, or padding past the last record
unfoldable pub row_at : ℕ → (List ℕ → List ℕ) → List ℕ → List ℕ → ℕ → List ℕ
row_at w row padding l k = cond (ltb k (record_count w l)) (row (record_at w l k)) padding

-- the lent table afterwards: a refusal writes nothing, and numbers past the rows keep their values
unfoldable pub table_after : ℕ → (List ℕ → List ℕ) → List ℕ → List ℕ → TableAnswer → List ℕ → List ℕ
table_after w row padding l (Ok rows) table = store table 0 (flat (row_at w row padding l) rows)
table_after w row padding l (Err why) table = table

-- document 01's number, place and value of each case; `over` is the number of the refusal of too many records, 8 for the limit 65,536
abbrev pub table_numbers : ℕ → TableAnswer → Answer
table_numbers over (Ok rows) = accepted rows
table_numbers over (Err TooManyRecords) = refused over 0
table_numbers over (Err (BadRecord place)) = refused 10 place
table_numbers over (Err BufferShort) = refused 9 0

-- what a maker has to show: its answer in these numbers, and its lent table when it is done
pub record TableDone (over : ℕ) (found : TableAnswer) (after : TableAnswer → List ℕ) (numbers : Answer) (table : List ℕ) : Type 0 where
  pub answer : numbers ≡ table_numbers over found
  pub written : table ≡ after found
