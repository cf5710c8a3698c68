-- `exports::generate_copy_trace` meets its contract: its answer is the maker's answer in numbers, and the table is as the maker left it.
-- Assumes nothing.
use borrow.Author.Rules.{rules}
use mathlib.Core.Path.{◌∙◌}
use Rattle.exports.proofs.generate_copy_trace.Statement.{statement}
use Rattle.exports.proofs.generate_copy_trace.Tie as tie

returns : tie.Need-returns
returns c =
    let made = c.before.before.before in
    record { answer = c.numbers.ensures ∙ made.generate_copy_trace.ensures.answer; written = made.generate_copy_trace.ensures.written }

pub generate_copy_trace_spec : {M : Type 1} → statement M
generate_copy_trace_spec =
    tie.close (tie.spec (λ c κs. search rules) (λ c κs. search rules) (λ c. search rules) returns)
