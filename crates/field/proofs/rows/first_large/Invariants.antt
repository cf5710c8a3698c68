-- `rows::first_large`: the loop has passed the elements before c, so the search of the row is the search from c. Assumes nothing.
use Rattle.std.proofs.Common.{◌≡◌, ◌-◌, length}
use Rattle.lists.specs.Lists.{first}
use Rattle.field.specs.Rows.{first_large}
use Rattle.field.proofs.FirstLarge.{large}
use Rattle.field.proofs.rows.first_large.Given as goal

abbrev pub invariant-loop-c : goal.invariant-loop-c
invariant-loop-c l = first_large l.row ≡ first (large l.row) l.c (length l.row - l.c)
