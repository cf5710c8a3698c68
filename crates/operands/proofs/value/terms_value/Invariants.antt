-- `value::terms_value`: the total is the sum of the terms passed. Assumes nothing.
use Rattle.std.proofs.Common.{◌≡◌, ◌<◌}
use Rattle.field.specs.Field.{p}
use Rattle.operands.specs.Operands.{terms_value}
use Rattle.operands.proofs.value.terms_value.Given as goal

abbrev pub invariant-loop-k : goal.invariant-loop-k
invariant-loop-k l = (l.total.0 ≡ terms_value l.row.numbers.now l.terms l.k) × (l.total.0 < p)
