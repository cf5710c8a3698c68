-- Document 01's starred examples on rows: "rows made from Copy records, unnamed fields 0", and a dead row. It names no gap, so they hold
-- under every gap below 2^32. Each of these rows can stand alone, so "passes" says that the chain check passes the list of that row.
-- Assumes nothing.
use Rattle.std.specs.Prelude.{◌≡◌, List, ◌∷◌, ◌++◌, ℕ, ◌-◌, ◌^◌, ◌<◌, replicate, Ok, Err}
use Rattle.copy_row.specs.Trace.{copy_row}
use Rattle.copy_residues.specs.Residues.{residue}
use Rattle.copy_residues.specs.declared.faults.RowCheckRefusal.TheVariants.{NotZero}
use Rattle.chain.specs.Chain.{ChainAnswer, chain_answer}
use Rattle.chain.specs.declared.ChainRefusal.TheVariants.{Row}

-- the row of a Copy record with FIRST, of src, count, width and END
abbrev pub copy_of : ℕ → ℕ → ℕ → ℕ → List ℕ
copy_of src count width end = copy_row (0 ∷ src ∷ 0 ∷ count ∷ width ∷ 1 ∷ end ∷ 0 ∷ replicate 8 0)

-- "Dead row, COUNT 8, SRC 5, SRC_INCR 13, DST_INCR 8"
abbrev pub dead_row : List ℕ
dead_row = replicate 10 0 ++ (5 ∷ 0 ∷ 13 ∷ replicate 5 0) ++ (8 ∷ replicate 3 0) ++ (8 ∷ replicate 18 0)

-- what the chain check answers of the list of one row, and what a residue of the row is
abbrev pub Checks : List ℕ → ChainAnswer → Type 0
Checks row answer = (gap : ℕ) → gap < 2 ^ 32 → chain_answer gap row ≡ answer

abbrev pub Gives : List ℕ → ℕ → ℕ → Type 0
Gives row i x = (gap : ℕ) → gap < 2 ^ 32 → residue gap row i ≡ x

pub record RowExamples : Type 0 where
  -- "Count 8, width 8, dst 0, FIRST, END: src 2^64 − 9 passes; 2^64 − 8 gives residue 37 = 1"
  pub below_top : Checks (copy_of (2 ^ 64 - 9) 8 8 1) (Ok 1)
  pub to_top : Gives (copy_of (2 ^ 64 - 8) 8 8 1) 37 1
  pub to_top_refused : Checks (copy_of (2 ^ 64 - 8) 8 8 1) (Err (Row 0 (NotZero 37)))
  -- "Count 0, width 8, FIRST: END 1 passes, END 0 gives residue 34 = 1"
  pub empty_ends : Checks (copy_of 0 0 8 1) (Ok 1)
  pub empty_goes_on : Gives (copy_of 0 0 8 0) 34 1
  pub empty_goes_on_refused : Checks (copy_of 0 0 8 0) (Err (Row 0 (NotZero 34)))
  -- "Count 4, width 8, FIRST, END: residue 30 = 4"
  pub too_wide : Gives (copy_of 0 4 8 1) 30 4
  pub too_wide_refused : Checks (copy_of 0 4 8 1) (Err (Row 0 (NotZero 30)))
  -- "Dead row, COUNT 8, SRC 5, SRC_INCR 13, DST_INCR 8: passes"
  pub dead : Checks dead_row (Ok 1)
