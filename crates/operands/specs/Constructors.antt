-- Operands by the constructors that copy.rs calls: `AddOperand::dword`, `linear`, `constant` and `from_dword_hl`. Assumes nothing.
use Rattle.std.specs.Prelude.{ℕ, ◌+◌, List, [], ◌∷◌, ◌++◌, ℤ, pos, length, take, replicate}
use Rattle.operands.specs.Operands.{TERMS}
use Rattle.operands.specs.declared.AddLinearTerm.{AddLinearTerm}
use Rattle.operands.specs.declared.AddLinearTerm.TheVariants.{Constant, Column}
use Rattle.operands.specs.declared.AddOperand.{AddOperand}
use Rattle.operands.specs.declared.OperandKind.TheVariants.{Words, Sums}

-- an array of four terms; the constant 0 fills the places that are not used
unfoldable pub cells : List AddLinearTerm → List AddLinearTerm
cells terms = take TERMS (terms ++ replicate TERMS (Constant (pos 0)))

-- the two word columns from column c on
unfoldable pub dword : ℕ → AddOperand
dword c = record { kind = Words c; low = cells []; high = cells [] }

-- a low and a high sum
unfoldable pub linear : List AddLinearTerm → List AddLinearTerm → AddOperand
linear low high = record { kind = Sums (length low) (length high); low = cells low; high = cells high }

-- a constant, with 0 for the high word
unfoldable pub constant : ℤ → AddOperand
constant n = linear (Constant n ∷ []) []

-- the four half columns from column c on, as two words
unfoldable pub from_dword_hl : ℕ → AddOperand
from_dword_hl c =
    linear (Column (pos 1) c ∷ Column (pos 65536) (c + 1) ∷ []) (Column (pos 1) (c + 2) ∷ Column (pos 65536) (c + 3) ∷ [])
