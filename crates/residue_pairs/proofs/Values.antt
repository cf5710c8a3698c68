-- The operands that copy.rs names have the values that the residues' definitions write out. Assumes nothing.
use mathlib.Core.Path.{◌≡◌, ap, ◌∙◌}
use mathlib.Core.List.{List, [], ◌∷◌}
use Prim.Native.Nat.{ℕ, ◌+◌}
use native.Mathlib.Omega.{arith}
use lib.IntN.{pos, negsuc}
use lib.Dec.{lit<}
use Rattle.lists.specs.Lists.{at}
use Rattle.field.specs.Field.{add_p, mul_p}
use Rattle.field.specs.Rows.{Elements}
use Rattle.copy_row.specs.Columns.{SINGLE, COLUMNS}
use Rattle.copy_residues.specs.Residues.{halves_word, step}
use Rattle.operands.specs.Operands.{signed_p, term_value, low_value, high_value}
use Rattle.operands.specs.Constructors.{from_dword_hl}
use Rattle.operands.specs.declared.AddLinearTerm.TheVariants.{Constant, Column}
use Rattle.operands.proofs.Constructors.{two_low, none_high, halves_low, halves_high}
use Rattle.residue_pairs.specs.CopyOperands.{step_operand}

module _ (row : List ℕ) where
  pub step_low : step row ≡ low_value row step_operand
  unfolding step step_operand term_value signed_p
  step_low = two_low row (Constant (pos 8)) (Column (negsuc 6) SINGLE) (lit< tt)

  pub step_high : 0 ≡ high_value row step_operand
  unfolding step_operand
  step_high = none_high row (Constant (pos 8) ∷ Column (negsuc 6) SINGLE ∷ [])

  module _ (e : Elements COLUMNS row) (c : ℕ) where
    pub word_low : halves_word row c ≡ low_value row (from_dword_hl c)
    unfolding halves_word
    word_low = halves_low row c (e.each c)

    pub word_high : halves_word row (c + 2) ≡ high_value row (from_dword_hl c)
    unfolding halves_word
    word_high =
        let next : c + 2 + 1 ≡ c + 3 = omega arith in
        ap (λ k. add_p (at row (c + 2)) (mul_p 65536 (at row k))) next ∙ halves_high row c (e.each (c + 2))
