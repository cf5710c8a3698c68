-- `callcheck::main` is safe and ends: what is written lies within its buffer, which keeps its length. Assumes nothing.
use mathlib.Core.Path.{ap}
use native.Mathlib.Omega.{arith}
use lib.ListN.{length}
use Rattle.lists.proofs.Store.{length_store}
use Rattle.callcheck.proofs.main.Goals as goal

pub slice_bounds-write_all-end : goal.slice_bounds-write_all-end
slice_bounds-write_all-end c = omega (arith, simp length_store at (ap length c.answer-k.ensures.out))
