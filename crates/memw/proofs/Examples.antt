-- The starred examples on CARRY hold, by computing. Assumes nothing.
use mathlib.Core.Path.{refl}
use Rattle.memw.specs.Rows.{memw_row}
use Rattle.memw.specs.CarryExamples.{CarryExamples}

pub carry_examples : CarryExamples
unfolding memw_row
carry_examples = record { no_carry = refl; only_six = refl; all_carries = refl }
