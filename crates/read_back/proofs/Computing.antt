-- For what holds by computing: to unfold `computing` is to unfold every definition here and below that such an example runs through.
-- Assumes nothing.
use Rattle.chain.proofs.Computing as chain
use Rattle.read_back.specs.ReadBack.{read_ops, read_calls, room_answer, read_back_answer, ops_after, calls_after}

unfoldable pub computing : Unit {0}
unfolding chain.computing read_ops read_calls room_answer read_back_answer ops_after calls_after
computing = tt
