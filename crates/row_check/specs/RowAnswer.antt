-- The row check. Document 02: "Our fitters look at a single suspicious row with no neighbours", "a row check (14, 15, 16)". Of one row
-- document 01 has 7, "gap is 2^32 or more", 13, "a single row not of its table's width (place 0)", and for 14 "for a single row .. place is
-- the index of the lowest such number". Assumes nothing.
use Rattle.std.specs.Prelude.{ℕ, ◌^◌, cond, List, eqb, leb, length, Result, Ok, Err}
use Rattle.answer.specs.Numbers.{accepted, refused}
use Rattle.answer.specs.declared.Answer.{Answer}
use Rattle.field.specs.Rows.{first_large}
use Rattle.copy_row.specs.Columns.{COLUMNS}
use Rattle.copy_residues.specs.RowCheck.{row_fault}
use Rattle.copy_residues.specs.declared.faults.RowCheckRefusal.{RowCheckRefusal}
use Rattle.copy_residues.specs.declared.faults.RowCheckRefusal.TheVariants.{NotElement, OutOfRange, NotZero}
use Rattle.row_check.specs.declared.RowRefused.{RowRefused}
use Rattle.row_check.specs.declared.RowRefused.TheVariants.{GapTooLarge, NotRow, Row}

-- where a row that stands alone is refused; it is row 0 of itself
abbrev pub place_in : List ℕ → RowCheckRefusal → ℕ
place_in row NotElement = first_large row
place_in row OutOfRange = 0
place_in row (NotZero index) = 0

-- what is answered of a row of 41 numbers that has this fault
abbrev pub on_fault : List ℕ → Result (Unit {0}) RowCheckRefusal → Result (Unit {0}) RowRefused
on_fault row (Ok fine) = Ok tt
on_fault row (Err why) = Err (Row (place_in row why) why)

-- the whole check
unfoldable pub row_answer : ℕ → List ℕ → Result (Unit {0}) RowRefused
row_answer gap row =
    cond (leb (2 ^ 32) gap) (Err GapTooLarge)
    (cond (eqb (length row) COLUMNS) (on_fault row (row_fault gap row)) (Err NotRow))

-- document 01's number, place and value of what is wrong with a row; 16 has the residue's index for its value
abbrev pub fault_numbers : ℕ → RowCheckRefusal → Answer
fault_numbers place NotElement = refused 14 place
fault_numbers place OutOfRange = refused 15 place
fault_numbers place (NotZero index) = record { number = 16; place = place; value = index }

-- of each refusal
abbrev pub row_refused_numbers : RowRefused → Answer
row_refused_numbers GapTooLarge = refused 7 0
row_refused_numbers NotRow = refused 13 0
row_refused_numbers (Row place why) = fault_numbers place why

-- and of each answer
abbrev pub row_numbers : Result (Unit {0}) RowRefused → Answer
row_numbers (Ok passed) = accepted 0
row_numbers (Err why) = row_refused_numbers why
