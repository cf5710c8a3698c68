-- `exports::register_lookups` meets its contract: its answer is the lookups' answer in numbers, and the buffer is as they left it.
-- Assumes nothing.
use borrow.Author.Rules.{rules}
use mathlib.Core.Path.{◌∙◌}
use Rattle.exports.proofs.register_lookups.Statement.{statement}
use Rattle.exports.proofs.register_lookups.Tie as tie

returns : tie.Need-returns
returns c =
    let made = c.before.before.before in
    record { answer = c.numbers.ensures ∙ made.register_lookups.ensures.answer; written = made.register_lookups.ensures.written }

pub register_lookups_spec : {M : Type 1} → statement M
register_lookups_spec = tie.close (tie.spec (λ c κs. search rules) (λ c κs. search rules) (λ c. search rules) returns)
