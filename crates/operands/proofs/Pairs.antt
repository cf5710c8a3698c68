-- The carries of a sum of operands from the values of its parts, and a number with and without conditions. Assumes nothing.
use Rattle.std.proofs.Common.{◌≡◌, ℕ, List, length, ◌∙◌, eq-eqb, ne_eqb}
use Rattle.field.specs.Field.{mul_p}
use Rattle.field.specs.Carries.{carry_low, carry_high}
use Rattle.operands.specs.Operands.{low_value, high_value}
use Rattle.operands.specs.Pairs.{carry_lo, carry_hi, condition_sum, gated}
use Rattle.operands.specs.declared.AddOperand.{AddOperand}

module _ (row : List ℕ) (lhs rhs sum : AddOperand) where
  pub carry_lo_lem : {a b s r : ℕ}
      → r ≡ carry_low a b s
      → a ≡ low_value row lhs
      → b ≡ low_value row rhs
      → s ≡ low_value row sum
      → r ≡ carry_lo row lhs rhs sum
  unfolding carry_lo
  carry_lo_lem e f g h = e ∙ (λ i. carry_low (f i) (g i) (h i))

  pub carry_hi_lem : {a b c s r : ℕ}
      → r ≡ carry_high a b c s
      → a ≡ high_value row lhs
      → b ≡ high_value row rhs
      → c ≡ carry_lo row lhs rhs sum
      → s ≡ high_value row sum
      → r ≡ carry_hi row lhs rhs sum
  unfolding carry_hi
  carry_hi_lem e f g k h = e ∙ (λ i. carry_high (f i) (g i) (k i) (h i))

module _ (conditions row : List ℕ) (x : ℕ) where
  pub gated_none : length conditions ≡ 0 → gated conditions row x ≡ x
  unfolding gated
  gated_none h = simp (eq-eqb (length conditions) 0 h)

  pub gated_some : (length conditions ≡ 0 → ⊥) → gated conditions row x ≡ mul_p (condition_sum conditions row) x
  unfolding gated
  gated_some h = simp (ne_eqb (length conditions) 0 h)
