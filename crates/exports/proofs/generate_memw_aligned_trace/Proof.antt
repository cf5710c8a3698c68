-- `exports::generate_memw_aligned_trace` meets its contract: the maker's answer in numbers, and the table as the maker left it. Assumes
-- nothing.
use borrow.Author.Rules.{rules}
use mathlib.Core.Path.{◌∙◌}
use Rattle.exports.proofs.generate_memw_aligned_trace.Statement.{statement}
use Rattle.exports.proofs.generate_memw_aligned_trace.Tie as tie

returns : tie.Need-returns
returns c =
    let made = c.before.before.before.generate_memw_aligned_trace.ensures in
    record { answer = c.numbers.ensures ∙ made.answer; written = made.written }

pub generate_memw_aligned_trace_spec : {M : Type 1} → statement M
generate_memw_aligned_trace_spec = tie.close (tie.spec (λ c κs. search rules) (λ c κs. search rules) (λ c. search rules) returns)
