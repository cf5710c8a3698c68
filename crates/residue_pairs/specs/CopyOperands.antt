-- The residues of a copy row that copy.rs makes by `emit_add_pair` and `add_pair_carry_hi`, with the operands and conditions that it
-- names: 10 to 17, 20, 21, and 37 to 39. Their definitions are written out over the columns; here each is what the two functions answer on
-- the row. So is the borrow, which copy.rs writes out as a long sum: it is the high carry of count_decr + step = count. Assumes nothing.
use Rattle.std.specs.Prelude.{◌≡◌, ℕ, ◌+◌, ◌^◌, ◌<◌, List, [], ◌∷◌, pos, negsuc, Ok}
use Rattle.lists.specs.Lists.{at}
use Rattle.field.specs.Field.{sub_p, mul_p}
use Rattle.field.specs.Rows.{Elements}
use Rattle.copy_row.specs.Columns.{SRC, SRC_INCR, DST, DST_INCR, COUNT, COUNT_DECR, DST_RES, SINGLE, IS_SET, IS_WRITE, MU, COLUMNS}
use Rattle.copy_residues.specs.Residues.{residue, borrow}
use Rattle.operands.specs.Constructors.{dword, linear, constant, from_dword_hl}
use Rattle.operands.specs.Answers.{pair_answer, carry_answer}
use Rattle.operands.specs.declared.AddLinearTerm.TheVariants.{Constant, Column}
use Rattle.operands.specs.declared.AddOperand.{AddOperand}

-- the row's width, 8 - 7 SINGLE; `negsuc 6` is -7
unfoldable pub step_operand : AddOperand
step_operand = linear (Constant (pos 8) ∷ Column (negsuc 6) SINGLE ∷ []) []

-- residues i and i + 1 are the two that `emit_add_pair` answers
pub record Emitted (gap : ℕ) (row : List ℕ) (i : ℕ) (conditions : List ℕ) (lhs rhs sum : AddOperand) : Type 0 where
  pub pair : pair_answer conditions lhs rhs sum row ≡ Ok (record { low = residue gap row i; high = residue gap row (i + 1) })

-- residue i is the gate times what `add_pair_carry_hi` answers
pub record Gated (gap : ℕ) (row : List ℕ) (i gate : ℕ) (lhs rhs sum : AddOperand) : Type 0 where
  pub carry : ℕ
  pub answer : carry_answer lhs rhs sum row ≡ Ok carry
  pub product : residue gap row i ≡ mul_p gate carry

-- all of them on one row
pub record RowPairs (gap : ℕ) (row : List ℕ) : Type 0 where
  pub src_incr : Emitted gap row 10 [] (dword SRC) step_operand (from_dword_hl SRC_INCR)
  pub dst_incr : Emitted gap row 12 [] (dword DST) step_operand (from_dword_hl DST_INCR)
  pub count_borrows : Emitted gap row 14 [] (from_dword_hl COUNT_DECR) step_operand (dword COUNT)
  pub dst_res_is_write : Emitted gap row 16 (IS_WRITE ∷ []) (dword DST) (dword COUNT) (from_dword_hl DST_RES)
  pub set_gap : Emitted gap row 20 (IS_SET ∷ []) (dword SRC) (constant (pos gap)) (dword DST)
  pub src_no_wrap : Gated gap row 37 (sub_p (at row MU) (borrow row)) (dword SRC) step_operand (from_dword_hl SRC_INCR)
  pub dst_no_wrap : Gated gap row 38 (sub_p (at row MU) (borrow row)) (dword DST) step_operand (from_dword_hl DST_INCR)
  pub gap_no_wrap_lem : Gated gap row 39 (at row IS_SET) (dword SRC) (constant (pos gap)) (dword DST)
  pub count_borrow : carry_answer (from_dword_hl COUNT_DECR) step_operand (dword COUNT) row ≡ Ok (borrow row)

-- and on every row of 41 elements, under every gap of 32 bits: `residues_are_pairs_holds` in theorems
abbrev pub ResiduesArePairs : Type 0
ResiduesArePairs = (gap : ℕ) → gap < 2 ^ 32 → (row : List ℕ) → Elements COLUMNS row → RowPairs gap row
