use mathlib.Core.Path.{◌≡◌}
use Prim.Native.Nat.{◌-◌}
use Rattle.lists.specs.Lists.{first}
use Rattle.records.specs.Records.{record_count}
use Rattle.records.proofs.Records.{bad_at}
use Rattle.access.specs.Access.{ACCESS_WIDTH}
use Rattle.routing.specs.Routing.{routable, first_refused}
use Rattle.routing.proofs.Routes.{Counted}
use Rattle.routing.proofs.split.judge.Given as goal

abbrev pub invariant-loop-k : goal.invariant-loop-k
invariant-loop-k l = record {
  counted : Counted l.accesses l.counts l.k;
  passed : first_refused l.accesses ≡ first (bad_at ACCESS_WIDTH routable l.accesses) l.k (record_count ACCESS_WIDTH l.accesses - l.k);
}
