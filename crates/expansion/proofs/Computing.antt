-- For what holds by computing: to unfold `computing` is to unfold every definition here and below that such an example runs through.
-- Assumes nothing.
use Rattle.expansion_rows.proofs.Computing as expansion_rows
use Rattle.expansion.specs.Refusals.{refusals, answer_by}
use Rattle.expansion.specs.Expansion.{ops_by, bytes_by, stamps_by, accesses_by, expanded, lent_after}

unfoldable pub computing : Unit {0}
unfolding expansion_rows.computing refusals answer_by ops_by bytes_by stamps_by accesses_by expanded lent_after
computing = tt
