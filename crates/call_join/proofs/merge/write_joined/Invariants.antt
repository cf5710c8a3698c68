use mathlib.Core.Path.{◌≡◌}
use Prim.Native.Nat.{◌+◌, ◌-◌, ◌≤◌}
use lib.ListN.{length}
use Rattle.call_join.specs.Join.{call_count, filled_joined}
use Rattle.call_join.proofs.Going.{gone_on}
use Rattle.call_join.proofs.merge.write_joined.Given as goal

abbrev pub invariant-loop-i : goal.invariant-loop-i
invariant-loop-i l =
    (length l.joined ≡ length l.initial.joined)
    × (l.n ≡ call_count l.first)
    × (l.m ≡ call_count l.second)
    × (l.i ≤ l.n)
    × (l.j ≤ l.m)
    × (gone_on l.first l.second l.i l.j l.joined ≡ filled_joined l.first l.second l.initial.joined)

abbrev pub decreases-loop-i : goal.decreases-loop-i
decreases-loop-i l = l.n + l.m - (l.i + l.j)
