-- `value::terms_value`: the total is the sum of the terms passed. Assumes nothing.
use Rattle.std.proofs.Common.{arith}
use Rattle.operands.proofs.Sums.{sum_none, sum_next}
use Rattle.operands.proofs.Operands.{sum_few, sum_term}
use Rattle.operands.proofs.value.terms_value.Goals as goal

pub loop-k-init : goal.loop-k-init
loop-k-init c = (sum_none _, omega arith)

pub offset_bounds-terms-k : goal.offset_bounds-terms-k
offset_bounds-terms-k c = omega (arith, sum_few _ _ c.requires)

pub bounds-terms-k : goal.bounds-terms-k
bounds-terms-k c = omega (arith, sum_few _ _ c.requires)

pub term_value-requires : goal.term_value-requires
term_value-requires c = sum_term _ _ c.requires _ c.loop-k-test.true

pub loop-k-preserved : goal.loop-k-preserved
loop-k-preserved c = (sum_next _ _ c.add-total.ensures c.loop-k.invariant.0 c.term_value.ensures, c.add-total.result.below_p)
