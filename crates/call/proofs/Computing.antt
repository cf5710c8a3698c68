-- For what holds by computing: to unfold `computing` is to unfold every definition here and below that such an example runs through.
-- Assumes nothing.
use Rattle.records.proofs.Computing as records
use Rattle.call.specs.Ops.{op_limits}
use Rattle.call.specs.Flat.{call_limits}
use Rattle.call.specs.Entries.{entry_limits}

unfoldable pub computing : Unit {0}
unfolding records.computing op_limits call_limits entry_limits
computing = tt
