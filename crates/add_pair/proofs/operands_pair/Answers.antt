-- `operands_pair`: where nothing is refused the three numbers have their parts in the row. Assumes nothing.
use Rattle.operands.proofs.Answers.{pair_fine}
use Rattle.add_pair.proofs.operands_pair.Goals as goal

pub pair_values-values-requires : goal.pair_values-values-requires
pair_values-values-requires c =
    let fine = pair_fine _ _ _ _ _ c.in_ok-row.ensures.ok.1 in
    (fine.conditions_in, fine.operands_in)
