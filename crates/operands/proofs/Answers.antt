-- What it says of conditions and operands that nothing is refused, and what is answered there. Assumes nothing.
use mathlib.Core.Path.{◌≡◌, refl, sym}
use mathlib.Core.Bool.{true, ◌&&◌}
use mathlib.Core.List.{List}
use Prim.Native.Nat.{ℕ}
use Rattle.field.specs.Rows.{Elements}
use Rattle.std.specs.Prelude.{Ok}
use Rattle.field.proofs.Verdicts.{is_fine, fine_of, answer_of}
use Rattle.copy_row.specs.Columns.{COLUMNS}
use Rattle.operands.specs.Operands.{conditions_in_row, operands_in_row}
use Rattle.operands.specs.Pairs.{carry_hi, residue_lo, residue_hi}
use Rattle.operands.specs.Answers.{pair_verdict, pair_answer, carry_answer}
use Rattle.operands.specs.declared.AddOperand.{AddOperand}
use Rattle.operands.proofs.Every.{both}

-- what conditions, operands and a row are that are refused for nothing
pub record PairFine (conditions : List ℕ) (lhs rhs sum : AddOperand) (row : List ℕ) : Type 0 where
  pub conditions_in : conditions_in_row conditions ≡ true
  pub operands_in : operands_in_row lhs rhs sum ≡ true
  pub row_is : Elements COLUMNS row

pub pair_fine : (conditions : List ℕ) (lhs rhs sum : AddOperand) (row : List ℕ) → pair_verdict conditions lhs rhs sum row ≡ Ok tt
    → PairFine conditions lhs rhs sum row
unfolding pair_verdict
pair_fine conditions lhs rhs sum row e =
    let f = is_fine (conditions_in_row conditions && operands_in_row lhs rhs sum) COLUMNS row e in
    let b = both (conditions_in_row conditions) (operands_in_row lhs rhs sum) f.is_inside in
    record { conditions_in = b.0; operands_in = b.1; row_is = f.row_is }

-- what is answered of them
module _ (lhs rhs sum : AddOperand) (row : List ℕ) (r : Elements COLUMNS row) (o : operands_in_row lhs rhs sum ≡ true) where
  pub carry_accepted : carry_answer lhs rhs sum row ≡ Ok (carry_hi row lhs rhs sum)
  unfolding carry_answer
  carry_accepted = sym (answer_of _ _ (fine_of _ COLUMNS row o r) refl)

  pub pair_accepted : (conditions : List ℕ) → conditions_in_row conditions ≡ true
      → pair_answer conditions lhs rhs sum row
      ≡ Ok (record { low = residue_lo conditions row lhs rhs sum; high = residue_hi conditions row lhs rhs sum })
  unfolding pair_answer pair_verdict
  pair_accepted conditions e = sym (answer_of _ _ (fine_of _ COLUMNS row (λ i. e i && o i) r) refl)
