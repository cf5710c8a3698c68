-- `add_pair`: the first list that has no form refuses the three; else the answer is that of the operands read. Assumes nothing.
use Rattle.std.proofs.lemmas.Result.{err_from_is_err_and}
use Rattle.add_pair.proofs.Answers.{malformed, answered, formed, formless, read_as}
use Rattle.add_pair.proofs.add_pair.Goals as goal

pub returns-in_err-lhs_form : goal.returns-in_err-lhs_form
returns-in_err-lhs_form c =
    let why = err_from_is_err_and c.from_residual.result c.from_residual.ensures.1 in
    rw (why.1, why.2, c.in_err-lhs_form.ensures.1) (malformed _ _ _ _ _ _ (simp (formless _ c.in_err-lhs_form.ensures.0)))

pub returns-in_err-rhs_form : goal.returns-in_err-rhs_form
returns-in_err-rhs_form c =
    let why = err_from_is_err_and c.from_residual-in_err-rhs_form.result c.from_residual-in_err-rhs_form.ensures.1 in
    rw (why.1, why.2, c.in_err-rhs_form.ensures.1) (malformed _ _ _ _ _ _ (simp (formed _ c.in_ok-lhs_form.ensures, formless _ c.in_err-rhs_form.ensures.0)))

pub returns-in_err-sum_form : goal.returns-in_err-sum_form
returns-in_err-sum_form c =
    let why = err_from_is_err_and c.from_residual-in_err-sum_form.result c.from_residual-in_err-sum_form.ensures.1 in
    rw (why.1, why.2, c.in_err-sum_form.ensures.1)
    (malformed _ _ _ _ _ _ (simp (formed _ c.in_ok-lhs_form.ensures, formed _ c.in_ok-rhs_form.ensures, formless _ c.in_err-sum_form.ensures.0)))

pub returns : goal.returns
returns c =
    let x = c.in_ok-lhs_form.ensures in
    let y = c.in_ok-rhs_form.ensures in
    let z = c.in_ok-sum_form.ensures in
    answered _ _ _ _ _ _ (formed _ x) (formed _ y) (formed _ z)
    (read_as _ x c.operand_of.ensures) (read_as _ y c.operand_of-2.ensures) (read_as _ z c.operand_of-3.ensures)
    c.operands_pair.ensures.answer c.operands_pair.ensures.out
