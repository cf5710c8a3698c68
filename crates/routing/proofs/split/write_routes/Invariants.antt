use Rattle.routing.specs.Routing.{lists}
use Rattle.routing.proofs.Routes.{AllFilled}
use Rattle.routing.proofs.split.write_routes.Given as goal

abbrev pub invariant-loop-k : goal.invariant-loop-k
invariant-loop-k l =
    AllFilled l.accesses (lists l.initial.register l.initial.aligned l.initial.general) (lists l.register l.aligned l.general) l.ends l.k
