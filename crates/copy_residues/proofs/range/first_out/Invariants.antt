-- `range::first_out`: the columns before c are in range, so the search of the row is the search from c. Assumes nothing.
use Rattle.std.proofs.Common.{◌≡◌, ℕ, ◌-◌, Bool, List, leb, get_or}
use Rattle.lists.specs.Lists.{first, at}
use Rattle.copy_row.specs.Columns.{COLUMNS}
use Rattle.copy_residues.specs.Range.{column_limits, first_out}
use Rattle.copy_residues.proofs.range.first_out.Given as goal

-- the test of the search
abbrev pub out : List ℕ → ℕ → Bool
out row c = leb (get_or column_limits c 0) (at row c)

abbrev pub invariant-loop-c : goal.invariant-loop-c
invariant-loop-c l = first_out l.row ≡ first (out l.row) l.c (COLUMNS - l.c)
