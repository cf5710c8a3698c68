-- What `add_pair` has to show: of a list that is no operand, and of three operands. Assumes nothing.
use Rattle.std.proofs.Common.{◌≡◌, true, false, ◌&&◌, List, ℕ, ◌∙◌, sym, ap}
use Rattle.std.specs.Prelude.{Result, Some, None}
use Rattle.answer.specs.Numbers.{refused}
use Rattle.operands.specs.declared.AddOperand.{AddOperand}
use Rattle.add_pair.specs.Flat.{flat_form, operand_of, flat_operand}
use Rattle.add_pair.specs.declared.FlatForm.{FlatForm}
use Rattle.add_pair.specs.Answers.{is_form, is_operand, operands_answer, add_pair_answer, add_pair_after, add_pair_numbers, pair_numbers_of, out_after, AddPairDone}
use Rattle.add_pair.specs.declared.AddPairRefusal.{AddPairRefusal}

-- a list that has a form is an operand, the one that is read by it
module _ (l : List ℕ) {form : FlatForm} (e : flat_form l ≡ Some form) where
  pub formed : is_operand l ≡ true
  unfolding is_form
  formed = ap is_form e

  pub read_as : {o : AddOperand} → o ≡ operand_of l (Some form) → o ≡ flat_operand l
  read_as x = x ∙ ap (operand_of l) (sym e)

-- and one that has none is no operand
pub formless : (l : List ℕ) → flat_form l ≡ None → is_operand l ≡ false
unfolding is_form
formless l e = ap is_form e

module _ (lhs rhs sum conditions row out : List ℕ) where
  pub malformed : (is_operand lhs && is_operand rhs && is_operand sum) ≡ false → AddPairDone lhs rhs sum conditions row out (refused 10 0) out
  unfolding add_pair_answer add_pair_after out_after
  malformed e = record { answer = simp e; written = simp e }

  pub answered : is_operand lhs ≡ true → is_operand rhs ≡ true → is_operand sum ≡ true
      → {a b c : AddOperand} → a ≡ flat_operand lhs → b ≡ flat_operand rhs → c ≡ flat_operand sum
      → {r : Result (Unit {0}) AddPairRefusal} → r ≡ operands_answer a b c conditions row
      → {after : List ℕ} → after ≡ out_after r (pair_numbers_of a b c conditions row) out
      → AddPairDone lhs rhs sum conditions row out (add_pair_numbers r) after
  unfolding add_pair_answer add_pair_after
  answered p q s x y z e f =
      record {
        answer = simp (p, q, s) (ap add_pair_numbers (e ∙ (λ i. operands_answer (x i) (y i) (z i) conditions row)));
        written =
            simp (p, q, s)
            (f ∙ (λ i. out_after ((e ∙ (λ j. operands_answer (x j) (y j) (z j) conditions row)) i) (pair_numbers_of (x i) (y i) (z i) conditions row) out));
      }
