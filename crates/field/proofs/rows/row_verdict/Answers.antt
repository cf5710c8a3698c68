-- `rows::row_verdict`: the verdicts in the order of their tests. Assumes nothing.
use Rattle.std.proofs.Common.{arith}
use Rattle.field.proofs.Verdicts.{outside, not_row, not_element, fine}
use Rattle.field.proofs.rows.row_verdict.Goals as goal

pub returns-then-not-inside : goal.returns-then-not-inside
returns-then-not-inside c = outside _ _ _ (c.if-not-inside.true)

pub returns-then-row-width : goal.returns-then-row-width
returns-then-row-width c = not_row _ _ _ (c.if-not-inside.false) (λ e. omega arith)

pub returns-then-place-width : goal.returns-then-place-width
returns-then-place-width c =
    not_element _ _ _ (c.if-not-inside.false) (omega arith) c.first_large-place.ensures c.if-place-width.true

pub returns : goal.returns
returns c =
    fine _ _ _ (c.if-not-inside.false) (omega arith) c.first_large-place.ensures c.if-place-width.false
