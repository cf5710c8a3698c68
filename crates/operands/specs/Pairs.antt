-- The sum of two operands on a row: its two carries and its two residues. Document 01: "`emit_add_pair` gives c0(1 − c0) and c1(1 − c1),
-- times the sum of the condition columns if any; c0 = (lo + lo − sum lo) × 2^−32, c1 = (hi + hi + c0 − sum hi) × 2^−32. c1 is
-- `add_pair_carry_hi`." Assumes nothing.
use Rattle.std.specs.Prelude.{ℕ, cond, List, eqb, length, get_or}
use Rattle.lists.specs.Lists.{at}
use Rattle.field.specs.Field.{mul_p, bit_p}
use Rattle.field.specs.Carries.{carry_low, carry_high}
use Rattle.operands.specs.Operands.{sum_p, low_value, high_value}
use Rattle.operands.specs.declared.AddOperand.{AddOperand}

-- c0
unfoldable pub carry_lo : List ℕ → AddOperand → AddOperand → AddOperand → ℕ
carry_lo row lhs rhs sum = carry_low (low_value row lhs) (low_value row rhs) (low_value row sum)

-- c1, which is `add_pair_carry_hi`
unfoldable pub carry_hi : List ℕ → AddOperand → AddOperand → AddOperand → ℕ
carry_hi row lhs rhs sum = carry_high (high_value row lhs) (high_value row rhs) (carry_lo row lhs rhs sum) (high_value row sum)

-- the sum of the condition columns
abbrev pub condition_sum : List ℕ → List ℕ → ℕ
condition_sum conditions row = sum_p (λ k. at row (get_or conditions k 0)) (length conditions)

-- x, times the sum of the condition columns if there are any
unfoldable pub gated : List ℕ → List ℕ → ℕ → ℕ
gated conditions row x = cond (eqb (length conditions) 0) x (mul_p (condition_sum conditions row) x)

-- the two residues that `emit_add_pair` gives
unfoldable pub residue_lo : List ℕ → List ℕ → AddOperand → AddOperand → AddOperand → ℕ
residue_lo conditions row lhs rhs sum = gated conditions row (bit_p (carry_lo row lhs rhs sum))

unfoldable pub residue_hi : List ℕ → List ℕ → AddOperand → AddOperand → AddOperand → ℕ
residue_hi conditions row lhs rhs sum = gated conditions row (bit_p (carry_hi row lhs rhs sum))
