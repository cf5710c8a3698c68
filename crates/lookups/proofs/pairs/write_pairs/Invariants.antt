use Rattle.lists.proofs.Filled as loop
use Rattle.records.specs.Records.{record_at}
use Rattle.access.specs.Access.{ACCESS_WIDTH}
use Rattle.access.specs.declared.AccessTable.TheVariants.{Register}
use Rattle.routing.specs.Routing.{goes_to}
use Rattle.lookups.specs.Lookups.{pair_of}
use Rattle.lookups.proofs.pairs.write_pairs.Given as goal

abbrev pub invariant-loop-k : goal.invariant-loop-k
invariant-loop-k l =
    loop.Filled (goes_to Register l.accesses) (λ k. pair_of (record_at ACCESS_WIDTH l.accesses k)) l.initial.lookups l.lookups l.end l.k
