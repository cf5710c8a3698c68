-- For what holds by computing: to unfold `computing` is to unfold every definition here and below that such an example runs through.
-- Assumes nothing.
use Rattle.records.proofs.Computing as records
use Rattle.access.specs.Access.{access_limits, good_access}
use Rattle.classify.specs.Classify.{delta_in_range, is_register_op, stamps_agree, is_aligned_op, classify}
use Rattle.routing.specs.Routing.{routed_of, count_of, routable, route_answer, lists_after}
use Rattle.lookups.specs.Lookups.{lookups_of, lookup_answer, lookups_after}

unfoldable pub computing : Unit {0}
unfolding records.computing access_limits good_access delta_in_range is_register_op stamps_agree is_aligned_op classify
    routed_of count_of routable route_answer lists_after lookups_of lookup_answer lookups_after
computing = tt
