-- Residue 31 (`borrow_implies_count_is_zero` on the high word of COUNT) says nothing that the range and residues 2, 14 and 15 do not say:
-- a row that borrows has a count below its width. So the chain check, which names the first residue that is not 0, never names it.
-- `residue_31_implied_holds` in theorems carries it. Assumes nothing.
use Rattle.std.specs.Prelude.{◌≡◌, ℕ, List}
use Rattle.copy_residues.specs.Residues.{residue}
use Rattle.copy_meaning.specs.RowIff.{InRange}

abbrev pub HighCountImplied : Type 0
HighCountImplied =
    (gap : ℕ) (row : List ℕ) → InRange row → residue gap row 2 ≡ 0 → residue gap row 14 ≡ 0 → residue gap row 15 ≡ 0 → residue gap row 31 ≡ 0
