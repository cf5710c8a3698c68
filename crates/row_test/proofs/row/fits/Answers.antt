-- `row::fits`: past the last column that is said of the row. Assumes nothing.
use Rattle.std.proofs.Common.{◌≡◌, ℕ, ◌<◌, ◌↔◌, true, List, get_or, subst, arith}
use Rattle.lists.specs.Lists.{at}
use Rattle.copy_row.specs.Columns.{COLUMNS}
use Rattle.copy_residues.specs.Range.{column_limits}
use Rattle.row_test.specs.Inner.{caps, Caps}
use Rattle.row_test.proofs.row.fits.Goals as goal

pub returns : goal.returns
unfolding Caps caps column_limits
returns c =
    let whole : c.loop-c.c ≡ COLUMNS = omega arith in
    subst (λ (l : List ℕ). (c.loop-c.ok ≡ true) ↔ ((j : ℕ) → j < COLUMNS → at c.args.row.now j < get_or l j 0)) c.limits-caps.ensures
    (rw whole at c.loop-c.invariant)
