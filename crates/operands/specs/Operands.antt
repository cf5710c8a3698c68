-- Operands and their values on a row. Document 01: "An `AddOperand` is two neighbouring word columns, or a low and a high sum of at most
-- four terms, read on a copy row: a signed 64-bit constant, or a signed 64-bit coefficient times a column, negative n meaning p − |n|
-- modulo p." Assumes nothing.
use Rattle.std.specs.Prelude.{ℕ, zero, suc, ◌+◌, ◌-◌, Bool, true, ◌&&◌, List, ltb, leb, ℤ, pos, negsuc, length, get_or}
use Rattle.lists.specs.Lists.{at}
use Rattle.field.specs.Field.{p, add_p, mul_p}
use Rattle.copy_row.specs.Columns.{COLUMNS}
use Rattle.operands.specs.declared.AddLinearTerm.{AddLinearTerm}
use Rattle.operands.specs.declared.AddLinearTerm.TheVariants.{Constant, Column}
use Rattle.operands.specs.declared.AddOperand.{AddOperand}
use Rattle.operands.specs.declared.OperandKind.{OperandKind}
use Rattle.operands.specs.declared.OperandKind.TheVariants.{Words, Sums}

-- Values

-- a signed number as an element: `negsuc n` is -(n + 1)
unfoldable pub signed_p : ℤ → ℕ
signed_p (pos n) = n
signed_p (negsuc n) = p - (n + 1)

-- f 0 + f 1 + .. + f (n - 1)
unfoldable pub sum_p : (ℕ → ℕ) → ℕ → ℕ
sum_p f zero = 0
sum_p f (suc n) = add_p (sum_p f n) (f n)

-- a term's value on a row
unfoldable pub term_value : List ℕ → AddLinearTerm → ℕ
term_value row (Constant n) = signed_p n
term_value row (Column n c) = mul_p (signed_p n) (at row c)

-- term k of an array
abbrev pub term_at : List AddLinearTerm → ℕ → AddLinearTerm
term_at terms k = get_or terms k (Constant (pos 0))

-- the sum of the first n terms of an array
abbrev pub terms_value : List ℕ → List AddLinearTerm → ℕ → ℕ
terms_value row terms n = sum_p (λ k. term_value row (term_at terms k)) n

-- an operand's low and high value, by its kind and the array that stands beside it
unfoldable pub low_of : List ℕ → OperandKind → List AddLinearTerm → ℕ
low_of row (Words c) terms = at row c
low_of row (Sums m n) terms = terms_value row terms m

unfoldable pub high_of : List ℕ → OperandKind → List AddLinearTerm → ℕ
high_of row (Words c) terms = at row (c + 1)
high_of row (Sums m n) terms = terms_value row terms n

abbrev pub low_value : List ℕ → AddOperand → ℕ
low_value row o = low_of row o.kind o.low

abbrev pub high_value : List ℕ → AddOperand → ℕ
high_value row o = high_of row o.kind o.high

-- What refusal 12 asks: at most four terms in each sum, and every column in the row

-- whether the test holds of every number below n
unfoldable pub every : (ℕ → Bool) → ℕ → Bool
every test zero = true
every test (suc n) = test n && every test n

-- whether a term's column, where it has one, is in a copy row
unfoldable pub term_in_row : AddLinearTerm → Bool
term_in_row (Constant n) = true
term_in_row (Column n c) = ltb c COLUMNS

-- how many terms a sum has at most
abbrev pub TERMS : ℕ
TERMS = 4

-- whether a sum has at most four terms, and the first n terms of its array are in the row
unfoldable pub sum_in_row : List AddLinearTerm → ℕ → Bool
sum_in_row terms n = leb n TERMS && every (λ k. term_in_row (term_at terms k)) n

-- of two neighbouring columns both must be in the row
unfoldable pub kind_in_row : OperandKind → List AddLinearTerm → List AddLinearTerm → Bool
kind_in_row (Words c) low high = ltb (c + 1) COLUMNS
kind_in_row (Sums m n) low high = sum_in_row low m && sum_in_row high n

abbrev pub operand_in_row : AddOperand → Bool
operand_in_row o = kind_in_row o.kind o.low o.high

-- the three operands of a sum
unfoldable pub operands_in_row : AddOperand → AddOperand → AddOperand → Bool
operands_in_row lhs rhs sum = operand_in_row lhs && operand_in_row rhs && operand_in_row sum

-- condition columns
unfoldable pub conditions_in_row : List ℕ → Bool
conditions_in_row conditions = every (λ k. ltb (get_or conditions k 0) COLUMNS) (length conditions)
