-- `row::fits`: `ok` says of the columns passed that they lie below their caps. Assumes nothing.
use Rattle.std.proofs.Common.{◌≡◌, ℕ, ◌<◌, ◌↔◌, true, get_or}
use Rattle.lists.specs.Lists.{at}
use Rattle.row_test.proofs.row.fits.Given as goal

abbrev pub invariant-loop-c : goal.invariant-loop-c
invariant-loop-c l = (l.ok ≡ true) ↔ ((j : ℕ) → j < l.c → at l.row j < get_or l.caps j 0)
