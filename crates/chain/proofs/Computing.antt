-- For what holds by computing: to unfold `computing` is to unfold every definition here and below that such an example runs through.
-- Assumes nothing.
use Rattle.copy_residues.proofs.Computing as copy_residues
use Rattle.chain.specs.Link.{linked, before_of}
use Rattle.chain.specs.Chain.{chain_from, chain_answer}

unfoldable pub computing : Unit {0}
unfolding copy_residues.computing linked before_of chain_from chain_answer
computing = tt
