use mathlib.Core.Path.{◌≡◌}
use Prim.Native.Nat.{◌-◌, ◌≤◌, max}
use Rattle.lists.specs.Lists.{first}
use Rattle.call_join.specs.Join.{call_count, is_below, first_below}
use Rattle.call_join.proofs.merge.first_below.Given as goal

abbrev pub invariant-loop-k : goal.invariant-loop-k
invariant-loop-k l = record {
  within : l.k ≤ max l.n 1;
  passed : first_below l.calls ≡ first (is_below l.calls) l.k (call_count l.calls - l.k);
}
