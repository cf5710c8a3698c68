-- `read_back::read_back` meets its contract: each way out shows its answer and what is in the lent buffers. Assumes nothing.
use mathlib.Core.Path.{sym, ◌∙◌}
use Rattle.std.proofs.lemmas.Result.{err_from_is_err_and}
use Rattle.read_back.proofs.Read.{refused, short, read}
use Rattle.read_back.proofs.read_back.Goals as goal

pub returns-in_err-check : goal.returns-in_err-check
returns-in_err-check c =
    let p = err_from_is_err_and c.from_residual.result c.from_residual.ensures.1 in
    rw (p.1, p.2) (refused _ _ _ _ _ (sym c.check.ensures ∙ c.in_err-check.was))

pub returns-then-not-holds : goal.returns-then-not-holds
returns-then-not-holds c =
    short _ _ _ _ _ (sym c.check.ensures ∙ c.in_ok-check.was) (sym c.holds.ensures ∙ c.if-not-holds.true)

pub returns : goal.returns
returns c =
    let done = c.write.ensures in
    read _ _ _ _ _ (sym c.check.ensures ∙ c.in_ok-check.was) (sym c.holds.ensures ∙ c.if-not-holds.false) _
    done.counts _ _ done.ops done.calls
