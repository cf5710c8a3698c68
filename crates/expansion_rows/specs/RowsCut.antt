-- That the rows of a call are a cut of it. Document 01: "It is cut into rows of widths 1 and 8 that sum to count".
-- `rows_are_cut_holds` in theorems carries it. Assumes nothing.
use Rattle.std.specs.Prelude.{◌≡◌, List, ℕ, ◌<◌}
use Rattle.lists.specs.Lists.{All}
use Rattle.words.specs.Words.{Bytes}
use Rattle.call.specs.Calls.{Call, Op}
use Rattle.call.specs.Cuts.{CutInto, PieceOk, pieces_of, cut_from, Cut}
use Rattle.expansion_rows.specs.Rows.{rows_by}
use Rattle.expansion_rows.specs.Turns.{row_ops}

-- the operation records of a call with a count
pub record RowsCut (c : Call) (os : List Op) : Type 0 where
  -- are those of the call cut into the pieces that they move
  pub records : os ≡ cut_from c 1 (pieces_of os)
  -- which sum to the count
  pub cut : Cut c.count (pieces_of os)
  -- and are of width 1 or 8, eight bytes each, "width 1 with seven zero tail bytes"
  pub pieces : All PieceOk (pieces_of os)

-- whatever the widths, if they are a cut
abbrev pub RowsAreCut : Type 0
RowsAreCut = (c : Call) (ws bytes : List ℕ) → CutInto c.count ws → Bytes bytes → 0 < c.count → RowsCut c (row_ops (rows_by c 1 ws) bytes)
