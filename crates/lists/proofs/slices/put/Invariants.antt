-- The loop of `lists::slices::put`: storing what is left of `src` gives `src`.
use mathlib.Core.Path.{◌≡◌}
use lib.ListN.{length, drop}
use Rattle.lists.specs.Lists.{store}
use Rattle.lists.proofs.slices.put.Given as goal

abbrev pub invariant-loop-i : goal.invariant-loop-i
invariant-loop-i l = (length l.dst ≡ length l.src) × (store l.dst l.i (drop l.i l.src) ≡ l.src)
