use mathlib.Core.Path.{◌≡◌}
use lib.ListN.{length, drop}
use Rattle.lists.specs.Lists.{store, eight_at}
use Rattle.expansion_rows.proofs.held.value_bytes.Given as goal

abbrev pub invariant-loop-i : goal.invariant-loop-i
invariant-loop-i l = (length l.out ≡ 8) × (store l.out l.i (drop l.i (eight_at l.op 8)) ≡ eight_at l.op 8)
