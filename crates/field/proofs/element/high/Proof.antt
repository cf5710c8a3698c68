-- `element::high`: no product of halves and no sum on the way passes 2^64, and `upper` says what they come to. Assumes nothing.
use Rattle.std.proofs.Common.{arith}
use Rattle.field.proofs.Reduction.{low_low, high_low, low_high, high_high, halves, upper}
use Rattle.field.proofs.element.high.Statement.{statement}
use Rattle.field.proofs.element.high.Tie as tie

mul_t : tie.Need-overflow_mul-t
mul_t c = omega (arith, high_low c.args.a c.args.b (omega arith))

mul_t_2 : tie.Need-overflow_mul-t-2
mul_t_2 c = omega (arith, low_low c.args.a c.args.b)

add_t : tie.Need-overflow_add-t
add_t c = omega (arith, high_low c.args.a c.args.b (omega arith), low_low c.args.a c.args.b)

mul_w : tie.Need-overflow_mul-w
mul_w c = omega (arith, low_high c.args.a c.args.b (omega arith))

add_w : tie.Need-overflow_add-w
add_w c = omega (arith, low_high c.args.a c.args.b (omega arith))

mul_result : tie.Need-overflow_mul-result
mul_result c = omega (arith, high_high c.args.a c.args.b (omega arith) (omega arith))

add_result : tie.Need-overflow_add-result
add_result c =
    omega (
      arith,
      high_high c.args.a c.args.b (omega arith) (omega arith),
      high_low c.args.a c.args.b (omega arith),
      low_low c.args.a c.args.b,
    )

add_result_2 : tie.Need-overflow_add-result-2
add_result_2 c =
    omega (
      arith,
      high_high c.args.a c.args.b (omega arith) (omega arith),
      high_low c.args.a c.args.b (omega arith),
      low_high c.args.a c.args.b (omega arith),
      low_low c.args.a c.args.b,
    )

returns : tie.Need-returns
returns c = upper _ _ _ _ _ (halves c.args.a c.args.b)

pub high_spec : {M : Type 1} → statement M
high_spec =
    tie.close (tie.spec mul_t mul_t_2 add_t mul_w add_w mul_result add_result add_result_2 returns)
