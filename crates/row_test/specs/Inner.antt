-- What the columns of a row that passes lie below: the first thing that is tested of it. Cited by the contracts of
-- inner functions alone. Assumes nothing.
use Rattle.std.specs.Prelude.{List, ◌++◌, ℕ, ◌<◌, get_or, take, replicate}
use Rattle.std.proofs.Props.{props}
use Rattle.lists.specs.Lists.{at}
use Rattle.copy_row.specs.Columns.{FIRST, COLUMNS}
use Rattle.copy_residues.specs.Range.{column_limits}

-- the number below which each column lies: its limit, and 2 for the nine flags
unfoldable pub caps : List ℕ
caps = take FIRST column_limits ++ replicate 9 2

-- each column lies below its cap
unfoldable pub Caps : List ℕ → Type 0
Caps row = (c : ℕ) → c < COLUMNS → at row c < get_or caps c 0

-- in one way at most, so that it may be a ghost field
pub caps_prop : (row : List ℕ) → IsProp (Caps row)
unfolding Caps
caps_prop row = Prim.hlevel props
