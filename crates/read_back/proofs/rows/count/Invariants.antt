use mathlib.Core.Path.{◌≡◌}
use mathlib.Core.Bool.{true, false}
use Rattle.lists.specs.Lists.{counted}
use Rattle.read_back.proofs.Walk.{read_at}
use Rattle.read_back.proofs.rows.count.Given as goal

abbrev pub invariant-loop-k : goal.invariant-loop-k
invariant-loop-k l = (l.ops ≡ counted (read_at false l.rows) l.k) × (l.calls ≡ counted (read_at true l.rows) l.k)
