-- What `add_pair` on flat operands answers and writes. A list that is not a flat operand is refused with 10, place 0, first; the rest is
-- that of `emit_add_pair`: 12, 13, 14. Assumes nothing.
use Rattle.std.specs.Prelude.{◌≡◌, ℕ, Bool, true, false, cond, ◌&&◌, List, [], ◌∷◌, Option, Some, None, Result, Ok, Err}
use Rattle.answer.specs.Numbers.{accepted, refused}
use Rattle.answer.specs.declared.Answer.{Answer}
use Rattle.field.specs.Rows.{on_row, row_refusal_numbers}
use Rattle.operands.specs.Pairs.{residue_lo, residue_hi, carry_hi}
use Rattle.operands.specs.Answers.{pair_verdict}
use Rattle.operands.specs.declared.AddOperand.{AddOperand}
use Rattle.add_pair.specs.Flat.{flat_form, flat_operand}
use Rattle.add_pair.specs.declared.AddPairRefusal.{AddPairRefusal}
use Rattle.add_pair.specs.declared.AddPairRefusal.TheVariants.{Malformed, Row}
use Rattle.add_pair.specs.declared.FlatForm.{FlatForm}

unfoldable pub is_form : Option FlatForm → Bool
is_form (Some form) = true
is_form None = false

-- whether a list is a flat operand
abbrev pub is_operand : List ℕ → Bool
is_operand l = is_form (flat_form l)

-- the answer for three operands, condition columns and a row
unfoldable pub operands_answer : AddOperand → AddOperand → AddOperand → List ℕ → List ℕ → Result (Unit {0}) AddPairRefusal
operands_answer lhs rhs sum conditions row = on_row (pair_verdict conditions lhs rhs sum row) (λ why. Err (Row why)) (Ok tt)

-- the answer for three lists
unfoldable pub add_pair_answer : List ℕ → List ℕ → List ℕ → List ℕ → List ℕ → Result (Unit {0}) AddPairRefusal
add_pair_answer lhs rhs sum conditions row =
    cond (is_operand lhs && is_operand rhs && is_operand sum)
    (operands_answer (flat_operand lhs) (flat_operand rhs) (flat_operand sum) conditions row)
    (Err Malformed)

-- what is written: `emit_add_pair`'s two residues and `add_pair_carry_hi`
unfoldable pub pair_numbers_of : AddOperand → AddOperand → AddOperand → List ℕ → List ℕ → List ℕ
pair_numbers_of lhs rhs sum conditions row =
    residue_lo conditions row lhs rhs sum ∷ residue_hi conditions row lhs rhs sum ∷ carry_hi row lhs rhs sum ∷ []

-- the lent array afterwards: a refusal writes nothing
unfoldable pub out_after : Result (Unit {0}) AddPairRefusal → List ℕ → List ℕ → List ℕ
out_after (Ok written) numbers out = numbers
out_after (Err why) numbers out = out

unfoldable pub add_pair_after : List ℕ → List ℕ → List ℕ → List ℕ → List ℕ → List ℕ → List ℕ
add_pair_after lhs rhs sum conditions row out =
    out_after (add_pair_answer lhs rhs sum conditions row)
    (pair_numbers_of (flat_operand lhs) (flat_operand rhs) (flat_operand sum) conditions row) out

-- document 01's number, place and value of each refusal
abbrev pub add_pair_refusal_numbers : AddPairRefusal → Answer
add_pair_refusal_numbers Malformed = refused 10 0
add_pair_refusal_numbers (Row why) = row_refusal_numbers why

-- and of each case
abbrev pub add_pair_numbers : Result (Unit {0}) AddPairRefusal → Answer
add_pair_numbers (Ok written) = accepted 0
add_pair_numbers (Err why) = add_pair_refusal_numbers why

-- what `add_pair` has to show: its answer in these numbers, and the lent array when it is done
pub record AddPairDone (lhs rhs sum conditions row out : List ℕ) (numbers : Answer) (after : List ℕ) : Type 0 where
  pub answer : numbers ≡ add_pair_numbers (add_pair_answer lhs rhs sum conditions row)
  pub written : after ≡ add_pair_after lhs rhs sum conditions row out
