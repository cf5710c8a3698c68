-- For what holds by computing: to unfold `computing` is to unfold every definition here and below that such an example runs through.
-- Assumes nothing.
use Rattle.lists.proofs.Computing as lists
use Rattle.load.specs.Load.{stepped, state_after, draw, index_at, load_call, load_answer, loaded, load_after}

unfoldable pub computing : Unit {0}
unfolding lists.computing stepped state_after draw index_at load_call load_answer loaded load_after
computing = tt
