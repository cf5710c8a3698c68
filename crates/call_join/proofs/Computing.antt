-- For what holds by computing: to unfold `computing` is to unfold every definition here and below that such an example runs through.
-- Assumes nothing.
use Rattle.call.proofs.Computing as call
use Rattle.registers.specs.Step.{register_step}
use Rattle.call_join.specs.Join.{joined_with, joined_calls, first_below, join_answer, filled_joined, joined_after}

unfoldable pub computing : Unit {0}
unfolding call.computing register_step joined_with joined_calls first_below join_answer filled_joined joined_after
computing = tt
