-- `routing::split::route`: an answer that is no refusal says that every record is good and that all lists fit. Assumes nothing.
use mathlib.Core.Path.{sym}
use native.Mathlib.Omega.{arith}
use Rattle.access.specs.declared.AccessTable.TheVariants.{General, Aligned, Register}
use Rattle.routing.specs.Routing.{lists, rooms_of, lists_after}
use Rattle.routing.proofs.Judging.{routed_facts, all_routable}
use Rattle.routing.proofs.split.route.Goals as goal

pub write_routes-requires : goal.write_routes-requires
write_routes-requires c =
    let a = c.args in
    let f = routed_facts a.limit a.accesses.now (rooms_of (lists a.register.now a.aligned.now a.general.now)) c.in_ok-counts.counts
    (sym c.in_ok-counts.ensures) in
    (omega (arith, f.allowed), all_routable a.accesses.now f.fine, f.holds)

pub returns-clause-lists : goal.returns-clause-lists
unfolding lists_after
returns-clause-lists c =
    let wrote = c.write_routes.ensures in
    λ i. lists (wrote Register i) (wrote Aligned i) (wrote General i)
