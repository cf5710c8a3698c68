-- A list passes exactly if its rows pass the row check and no link of them is refused: the chain check is the two and nothing besides.
-- Assumes nothing.
use mathlib.Core.Path.{◌≡◌, ap}
use mathlib.Core.List.{List, [], ◌∷◌}
use Prim.Native.Nat.{ℕ}
use native.Mathlib.Omega.{arith}
use lib.ListN.{length}
use Rattle.lists.specs.Lists.{All}
use Rattle.records.proofs.RecordList.{records_whole}
use Rattle.copy_row.specs.Columns.{COLUMNS}
use Rattle.chain.specs.Chain.{table_rows, chain_numbers}
use Rattle.chain.proofs.Passed.{FineRow, passing, passing_answer}
use Rattle.whole_calls.specs.Halves.{PassedRow, BothHalves}

abbrev pub Wide : List ℕ → Type 0
Wide row = length row ≡ COLUMNS

passed_rows : (gap : ℕ) (rows : List (List ℕ)) → All Wide rows → All (FineRow gap) rows → All (PassedRow gap) rows
passed_rows gap [] wide fine = tt
passed_rows gap (row ∷ rows) wide fine = (record { wide = wide.0; fine = fine.0 }, passed_rows gap rows wide.1 fine.1)

fine_rows : (gap : ℕ) (rows : List (List ℕ)) → All (PassedRow gap) rows → All (FineRow gap) rows
fine_rows gap [] passed = tt
fine_rows gap (row ∷ rows) passed = (passed.0.fine, fine_rows gap rows passed.1)

pub both_halves : BothHalves
both_halves gap g l = (
  λ e.
      let p = passing gap l e in
      (p.whole, passed_rows gap (table_rows l) (records_whole COLUMNS (omega arith) l p.whole) p.fine, p.unbroken),
  λ b.
      ap (λ v. (chain_numbers v).number)
      (passing_answer gap l (record { small = g; whole = b.0; fine = fine_rows gap (table_rows l) b.1; unbroken = b.2 })),
)
