-- What `residue` answers. Document 01: "operands and residues 7, 12, 13, 14"; 12 where there is no residue of this number. Assumes
-- nothing.
use Rattle.std.specs.Prelude.{ℕ, ◌^◌, cond, List, leb, ltb, Result, Ok, Err}
use Rattle.answer.specs.Numbers.{accepted, refused}
use Rattle.answer.specs.declared.Answer.{Answer}
use Rattle.field.specs.Rows.{row_verdict, on_row, row_refusal_numbers}
use Rattle.copy_row.specs.Columns.{COLUMNS}
use Rattle.copy_residues.specs.Residues.{residue, RESIDUES}
use Rattle.copy_residues.specs.declared.ResidueRefusal.{ResidueRefusal}
use Rattle.copy_residues.specs.declared.ResidueRefusal.TheVariants.{GapTooLarge, Row}

-- residue i of a row under a gap, or the first refusal that applies
unfoldable pub residue_answer : ℕ → List ℕ → ℕ → Result ℕ ResidueRefusal
residue_answer gap row i =
    cond (leb (2 ^ 32) gap) (Err GapTooLarge)
    (on_row (row_verdict (ltb i RESIDUES) COLUMNS row) (λ why. Err (Row why)) (Ok (residue gap row i)))

-- document 01's number, place and value of each refusal
abbrev pub residue_refusal_numbers : ResidueRefusal → Answer
residue_refusal_numbers GapTooLarge = refused 7 0
residue_refusal_numbers (Row why) = row_refusal_numbers why

-- and of each case
abbrev pub residue_numbers : Result ℕ ResidueRefusal → Answer
residue_numbers (Ok v) = accepted v
residue_numbers (Err why) = residue_refusal_numbers why
