-- For what holds by computing: to unfold `computing` is to unfold every definition here and below that such an example runs through.
-- Assumes nothing.
use Rattle.expansion.proofs.Computing as expansion
use Rattle.calls_in_turn.specs.InTurn.{calls_from, leaves, tries_of, last_leaves, all_expanded}
use Rattle.calls_in_turn.specs.Counts.{all_records, all_calls}

unfoldable pub computing : Unit {0}
unfolding expansion.computing calls_from leaves tries_of last_leaves all_expanded all_records all_calls
computing = tt
