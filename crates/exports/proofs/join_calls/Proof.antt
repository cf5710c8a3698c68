-- `exports::join_calls` meets its contract: its answer is the join's answer in numbers, and the buffer is as the join left it.
-- Assumes nothing.
use borrow.Author.Rules.{rules}
use mathlib.Core.Path.{◌∙◌}
use Rattle.exports.proofs.join_calls.Statement.{statement}
use Rattle.exports.proofs.join_calls.Tie as tie

returns : tie.Need-returns
returns c =
    let made = c.before.before.before in
    record { answer = c.numbers.ensures ∙ made.join_calls.ensures.answer; written = made.join_calls.ensures.written }

pub join_calls_spec : {M : Type 1} → statement M
join_calls_spec = tie.close (tie.spec (λ c κs. search rules) (λ c κs. search rules) (λ c. search rules) returns)
