-- The chain property out of its two halves. Document 02: "The chain property is now a consequence of one statement about each half."
-- `RowHalf` speaks of the row check alone and `LinkHalf` of the link check alone, over rows that passed; `FromHalves` takes both and gives
-- demand 3's 'exactly'. Assumes nothing.
use Rattle.std.specs.Prelude.{◌≡◌, ◌↔◌, List, [], ◌∷◌, ◌++◌, map, ℕ, ◌%◌, ◌^◌, ◌<◌, eqb, length, Ok}
use Rattle.std.proofs.Math.Option.{Option, none, some}
use Rattle.lists.specs.Lists.{at, All}
use Rattle.words.specs.Words.{bit}
use Rattle.call.specs.Calls.{Call, Op}
use Rattle.call.specs.Cuts.{CutCall}
use Rattle.copy_row.specs.Columns.{MU, COLUMNS}
use Rattle.copy_row.specs.Rows.{table_row}
use Rattle.copy_residues.specs.Residues.{residue, RESIDUES}
use Rattle.copy_residues.specs.RowCheck.{row_fault}
use Rattle.copy_meaning.specs.ReadRow.{op_at}
use Rattle.copy_meaning.specs.RowIff.{RowIff, InRange}
use Rattle.call_chain.specs.OpChain.{next}
use Rattle.chain.specs.Link.{closed, Unbroken}
use Rattle.chain.specs.Chain.{table_rows}
use Rattle.whole_calls.specs.Demand.{Passes, WholeCalls}

-- a row of 41 numbers that the row check lets pass
pub record PassedRow (gap : ℕ) (row : List ℕ) : Type 0 where
  pub wide : length row ≡ COLUMNS
  pub fine : row_fault gap row ≡ Ok tt

-- The row check: what a row that passes says

pub record RowHalf : Type 0 where
  -- it passes exactly if it is in range and has 40 zero residues
  pub judges : (gap : ℕ) (row : List ℕ) → length row ≡ COLUMNS
      → (row_fault gap row ≡ Ok tt) ↔ (InRange row × ((i : ℕ) → i < RESIDUES → residue gap row i ≡ 0))
  -- and exactly if it is the row of the record read off it, which meets the plain-number conditions, live or dead
  pub says : RowIff

-- The link check: what rows say that passed one by one and of which no link is refused

-- what a link compares: "the timestamp, IS_SET and IS_WRITE .., and SRC, DST, COUNT"
abbrev pub compared : Call → List ℕ
compared c = c.stamp ∷ bit (eqb c.kind 1) ∷ bit (eqb c.kind 2) ∷ c.src ∷ c.dst ∷ c.count ∷ []

-- o stands where this call is left to go on with, or none: FIRST where there is none, otherwise FIRST 0 and the call as it was left
abbrev pub Follows : Option Call → Op → Type 0
Follows none o = o.first ≡ 1
Follows (some left) o = (o.first ≡ 0) × (compared o.call ≡ compared left)

-- operation records, each linked to the one before it, the last with END
abbrev pub Links : Option Call → List Op → Type 0
Links none [] = Unit {0}
Links (some left) [] = ⊥
Links left (o ∷ os) = Follows left o × Links (next o) os

-- the rows of linked operation records, then dead rows
pub record LinkedRows (left : Option Call) (rows : List (List ℕ)) : Type 0 where
  pub ops : List Op
  pub others : List (List ℕ)
  pub same : rows ≡ map table_row ops ++ others
  -- each record is the one that its row shows
  pub shows : All (λ (o : Op). op_at (table_row o) ≡ o) ops
  pub links : Links left ops
  pub dead : All (λ (row : List ℕ). at row MU ≡ 0) others

abbrev pub LinkHalf : Type 0
LinkHalf = (gap : ℕ) → gap < 2 ^ 32 → (rows : List (List ℕ)) → All (PassedRow gap) rows → Unbroken closed rows ↔ LinkedRows none rows

-- Both

-- a list passes exactly if it is rows of 41 numbers, each passes the row check, and no link is refused
abbrev pub BothHalves : Type 0
BothHalves =
    (gap : ℕ) → gap < 2 ^ 32 → (l : List ℕ)
    → Passes gap l ↔ ((length l % COLUMNS ≡ 0) × All (PassedRow gap) (table_rows l) × Unbroken closed (table_rows l))

-- demand 3's 'exactly'
abbrev pub ChainProperty : Type 0
ChainProperty = (gap : ℕ) → gap < 2 ^ 32 → (l : List ℕ) → Passes gap l ↔ ((ks : List CutCall) × WholeCalls gap l ks)

abbrev pub FromHalves : Type 0
FromHalves = RowHalf → LinkHalf → ChainProperty

pub record Halves : Type 0 where
  pub row_half : RowHalf
  pub link_half : LinkHalf
  pub both : BothHalves
  pub property : FromHalves
