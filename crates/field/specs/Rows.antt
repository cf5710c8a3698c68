-- Rows of elements, and the refusals of what is asked of one row. Document 01: "An element is a whole number below p"; "operands and
-- residues 7, 12, 13, 14": 12 is an "operand of more than four terms, a column outside the row" or a residue that the table has not, 13 "a
-- single row not of its table's width (place 0)", 14 "a number not below p (for a single row or a field operation, place is the index of
-- the lowest such number)". Assumes nothing.
use Rattle.std.specs.Prelude.{◌≡◌, ℕ, ◌<◌, Bool, cond, List, length, ◌==◌, nat_le, nat_lt, Result, Ok, Err}
use Rattle.answer.specs.Numbers.{refused}
use Rattle.answer.specs.declared.Answer.{Answer}
use Rattle.lists.specs.Lists.{first, at}
use Rattle.field.specs.Field.{p}
use Rattle.field.specs.declared.rows.RowRefusal.{RowRefusal}
use Rattle.field.specs.declared.rows.RowRefusal.TheVariants.{OutsideRow, NotRow, NotElement}

-- the lowest index of a number of a list that is no element, or the list's length
unfoldable pub first_large : List ℕ → ℕ
first_large row = first (λ c. nat_le p (at row c)) 0 (length row)

-- a row of so many elements
pub record Elements (width : ℕ) (row : List ℕ) : Type 0 where
  pub wide : length row ≡ width
  pub each : (c : ℕ) → at row c < p

-- the first of 12, 13 and 14 that holds of a row of a table of this width; `inside` says that 12 does not
unfoldable pub row_verdict : Bool → ℕ → List ℕ → Result (Unit {0}) RowRefusal
row_verdict inside width row =
    cond inside
    (cond (length row == width)
    (cond (nat_lt (first_large row) width) (Err (NotElement (first_large row))) (Ok tt))
    (Err NotRow))
    (Err OutsideRow)

-- the verdict's refusal; where there is none, the answer given
abbrev pub on_row : {A : Type 0} → Result (Unit {0}) RowRefusal → (RowRefusal → A) → A → A
on_row (Ok fine) refuse given = given
on_row (Err why) refuse given = refuse why

-- document 01's number, place and value of each refusal
abbrev pub row_refusal_numbers : RowRefusal → Answer
row_refusal_numbers OutsideRow = refused 12 0
row_refusal_numbers NotRow = refused 13 0
row_refusal_numbers (NotElement place) = refused 14 place
