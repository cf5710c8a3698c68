-- `flat::after_terms`: the walk stops, goes on or ends as the loop does. Assumes nothing.
use Rattle.add_pair.proofs.Walks.{walk_stops, walk_goes_on, walk_ends}
use Rattle.add_pair.proofs.flat.after_terms.Goals as goal

pub returns-in_err-i : goal.returns-in_err-i
returns-in_err-i c =
    let stops = walk_stops _ _ _ _ _ c.loop.invariant c.loop-test.true c.in_err-i.ensures in
    cc (stops, c.from_residual.ensures)

pub loop-preserved : goal.loop-preserved
loop-preserved c = walk_goes_on _ _ _ _ _ c.loop.invariant c.loop-test.true c.in_ok-i.ensures

pub returns : goal.returns
returns c = walk_ends _ _ _ _ _ c.loop.invariant c.loop-test.false
