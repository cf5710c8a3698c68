-- `residues::residue_with`: the definition has the high carry of COUNT_DECR and the step for 15, and the parts the borrow, which it is.
-- Assumes nothing.
use Rattle.std.proofs.Common.{ap, ◌∙◌}
use Rattle.field.specs.Field.{bit_p}
use Rattle.copy_residues.specs.Residues.{residue}
use Rattle.copy_residues.proofs.CountBorrow.{carried}
use Rattle.copy_residues.proofs.residues.residue_with.Goals as goal

pub returns-in-15 : goal.returns-in-15
unfolding residue
returns-in-15 c =
    let parts = c.args.parts in
    rw c.in-15.is (c.is_bit-in-15.ensures ∙ ap bit_p (parts.is_borrowed ∙ carried parts.row.elements))
