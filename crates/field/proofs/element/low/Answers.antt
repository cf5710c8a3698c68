-- `element::low`: the products of halves fit, and `lower` says what their sum leaves modulo 2^64. Assumes nothing.
use Rattle.std.proofs.Common.{refl, arith}
use Rattle.field.proofs.Reduction.{low_low, high_low, low_high, halves, lower}
use Rattle.field.proofs.element.low.Goals as goal

pub overflow_mul-middle : goal.overflow_mul-middle
overflow_mul-middle c = omega (arith, low_high c.args.a c.args.b (omega arith))

pub overflow_mul-middle-2 : goal.overflow_mul-middle-2
overflow_mul-middle-2 c = omega (arith, high_low c.args.a c.args.b (omega arith))

pub overflow_mul-result : goal.overflow_mul-result
overflow_mul-result c = omega (arith, low_low c.args.a c.args.b)

pub returns : goal.returns
returns c = lower _ _ _ _ _ _ (halves c.args.a c.args.b) refl
