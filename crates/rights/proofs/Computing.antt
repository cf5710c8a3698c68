-- For what holds by computing: to unfold `computing` is to unfold every definition here and below that such an example runs through.
-- Assumes nothing.
use Rattle.call.proofs.Computing as call
use Rattle.rights.specs.Entries.{past_window}
use Rattle.rights.specs.Rights.{giver, covered}
use Rattle.rights.specs.Inner.{claim_answer}

unfoldable pub computing : Unit {0}
unfolding call.computing past_window giver covered claim_answer
computing = tt
