-- An operand as a flat list of numbers: `0, column` for two neighbouring word columns, or `1`, a low sum and a high sum. A sum is the
-- number of its terms, then the terms; a term is `0, constant` or `1, coefficient, column`, signed numbers in two's complement. Nothing
-- may follow. A sum may say any number of terms that follow, so that one of more than four is of this form, and refused later, with 12.
-- Assumes nothing.
use Rattle.std.specs.Prelude.{ℕ, zero, suc, ◌+◌, ◌-◌, ◌^◌, Bool, false, cond, ◌&&◌, List, [], ◌∷◌, ltb, leb, eqb, ℤ, pos, negsuc, length, Option, Some, None}
use Rattle.lists.specs.Lists.{at}
use Rattle.operands.specs.Constructors.{dword}
use Rattle.operands.specs.declared.AddLinearTerm.{AddLinearTerm}
use Rattle.operands.specs.declared.AddLinearTerm.TheVariants.{Constant, Column}
use Rattle.operands.specs.declared.AddOperand.{AddOperand}
use Rattle.operands.specs.declared.OperandKind.TheVariants as kind
use Rattle.add_pair.specs.declared.FlatForm.{FlatForm}
use Rattle.add_pair.specs.declared.FlatForm.TheVariants as form

-- The form

-- where the term at a place ends
unfoldable pub after_term : List ℕ → Option ℕ → Option ℕ
after_term l None = None
after_term l (Some i) =
    cond (leb (at l i) 1 && leb (i + (2 + at l i)) (length l)) (Some (i + (2 + at l i))) None

-- where the n terms from a place on end
unfoldable pub after_terms : List ℕ → Option ℕ → ℕ → Option ℕ
after_terms l place zero = place
after_terms l place (suc n) = after_terms l (after_term l place) n

-- where the sum at a place ends
unfoldable pub after_sum : List ℕ → Option ℕ → Option ℕ
after_sum l None = None
after_sum l (Some i) = cond (ltb i (length l)) (after_terms l (Some (i + 1)) (at l i)) None

-- whether a place is the end of the list
unfoldable pub is_end : List ℕ → Option ℕ → Bool
is_end l None = false
is_end l (Some i) = eqb i (length l)

-- a low sum at index 1, a high sum at a place, and nothing after it
unfoldable pub sums_form : List ℕ → Option ℕ → Option FlatForm
sums_form l None = None
sums_form l (Some i) = cond (is_end l (after_sum l (Some i))) (Some (form.Sums (at l 1) (at l i) (i + 1))) None

unfoldable pub flat_form : List ℕ → Option FlatForm
flat_form l =
    cond (eqb (at l 0) 0) (cond (eqb (length l) 2) (Some (form.Words (at l 1))) None)
    (cond (eqb (at l 0) 1) (sums_form l (after_sum l (Some 1))) None)

-- The operand

-- the signed number of a two's complement
unfoldable pub signed_of : ℕ → ℤ
signed_of n = cond (ltb n (2 ^ 63)) (pos n) (negsuc (2 ^ 64 - 1 - n))

-- the term at index i
unfoldable pub term_from : List ℕ → ℕ → AddLinearTerm
term_from l i =
    cond (eqb (at l i) 0) (Constant (signed_of (at l (i + 1)))) (Column (signed_of (at l (i + 1))) (at l (i + 2)))

unfoldable pub term_after : List ℕ → Option ℕ → AddLinearTerm
term_after l None = Constant (pos 0)
term_after l (Some i) = term_from l i

-- term k of the n terms from index i on; the constant 0 fills the places of terms that a sum does not have
unfoldable pub term_of : List ℕ → ℕ → ℕ → ℕ → AddLinearTerm
term_of l i n k = cond (ltb k n) (term_after l (after_terms l (Some i) k)) (Constant (pos 0))

-- the first four of them: a sum of more is refused with 12, whatever they are
unfoldable pub four_terms : List ℕ → ℕ → ℕ → List AddLinearTerm
four_terms l i n = term_of l i n 0 ∷ term_of l i n 1 ∷ term_of l i n 2 ∷ term_of l i n 3 ∷ []

-- the operand of a list, by the list's form
unfoldable pub operand_of : List ℕ → Option FlatForm → AddOperand
operand_of l (Some (form.Words c)) = dword c
operand_of l (Some (form.Sums m n i)) = record { kind = kind.Sums m n; low = four_terms l 2 m; high = four_terms l i n }
operand_of l None = dword 0

abbrev pub flat_operand : List ℕ → AddOperand
flat_operand l = operand_of l (flat_form l)
