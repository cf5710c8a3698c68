-- What the entries on operands answer. Document 01: "Order: field operations 14; operands and residues 7, 12, 13, 14"; 12 is an "operand
-- of more than four terms, a column outside the row". Four terms are allowed in each of an operand's two sums; of two neighbouring columns
-- both must be in the row, and so must the condition columns. Assumes nothing.
use Rattle.std.specs.Prelude.{ℕ, ◌&&◌, List, Result, Ok, Err}
use Rattle.answer.specs.Numbers.{accepted}
use Rattle.answer.specs.declared.Answer.{Answer}
use Rattle.field.specs.Rows.{row_verdict, on_row, row_refusal_numbers}
use Rattle.field.specs.declared.rows.RowRefusal.{RowRefusal}
use Rattle.copy_row.specs.Columns.{COLUMNS}
use Rattle.operands.specs.Operands.{operands_in_row, conditions_in_row}
use Rattle.operands.specs.Pairs.{residue_lo, residue_hi, carry_hi}
use Rattle.operands.specs.declared.AddOperand.{AddOperand}
use Rattle.operands.specs.declared.PairResidues.{PairResidues}

-- what condition columns, three operands and a row are found to be
unfoldable pub pair_verdict : List ℕ → AddOperand → AddOperand → AddOperand → List ℕ → Result (Unit {0}) RowRefusal
pair_verdict conditions lhs rhs sum row = row_verdict (conditions_in_row conditions && operands_in_row lhs rhs sum) COLUMNS row

-- what `emit_add_pair` answers
unfoldable pub pair_answer : List ℕ → AddOperand → AddOperand → AddOperand → List ℕ → Result PairResidues RowRefusal
pair_answer conditions lhs rhs sum row =
    on_row (pair_verdict conditions lhs rhs sum row) Err
    (Ok (record { low = residue_lo conditions row lhs rhs sum; high = residue_hi conditions row lhs rhs sum }))

-- what `add_pair_carry_hi` answers
unfoldable pub carry_answer : AddOperand → AddOperand → AddOperand → List ℕ → Result ℕ RowRefusal
carry_answer lhs rhs sum row =
    on_row (row_verdict (operands_in_row lhs rhs sum) COLUMNS row) Err (Ok (carry_hi row lhs rhs sum))

-- document 01's number, place and value of an answer of `emit_add_pair`, the value being the low residue; and the high residue
pub record PairNumbers : Type 0 where
  pub answer : Answer
  pub high : ℕ

abbrev pub pair_numbers : Result PairResidues RowRefusal → PairNumbers
pair_numbers (Ok r) = record { answer = accepted r.low; high = r.high }
pair_numbers (Err why) = record { answer = row_refusal_numbers why; high = 0 }

-- document 01's number, place and value of an answer of `add_pair_carry_hi`
abbrev pub carry_numbers : Result ℕ RowRefusal → Answer
carry_numbers (Ok c) = accepted c
carry_numbers (Err why) = row_refusal_numbers why
