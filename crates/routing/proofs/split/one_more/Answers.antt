-- `routing::split::one_more`: each of the three counts is small. Assumes nothing.
use native.Mathlib.Omega.{arith}
use Rattle.access.specs.declared.AccessTable.TheVariants.{General, Aligned, Register}
use Rattle.routing.proofs.split.one_more.Goals as goal

pub one_more-requires : goal.one_more-requires
one_more-requires c = omega (arith, c.requires Register)

pub one_more-requires-2 : goal.one_more-requires-2
one_more-requires-2 c = omega (arith, c.requires Aligned)

pub one_more-requires-3 : goal.one_more-requires-3
one_more-requires-3 c = omega (arith, c.requires General)
