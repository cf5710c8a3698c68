-- `add_pair_carry_hi`: where nothing is refused the carry has its parts in the row. Assumes nothing.
use Rattle.std.proofs.Common.{sym, ◌∙◌}
use Rattle.field.proofs.Verdicts.{is_fine}
use Rattle.operands.proofs.add_pair_carry_hi.Goals as goal

pub carries-requires : goal.carries-requires
carries-requires c = sym c.operands_in_row.ensures ∙ (is_fine _ _ _ c.in_ok-row.ensures.ok.1).is_inside
