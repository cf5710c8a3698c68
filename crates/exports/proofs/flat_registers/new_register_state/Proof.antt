-- `exports::flat_registers::new_register_state` meets its contract: the new state, in numbers. Assumes nothing.
use mathlib.Core.Path.{ap, ◌∙◌}
use borrow.Author.Rules.{rules}
use Rattle.exports.specs.FlatRegisters.{state_numbers}
use Rattle.exports.proofs.flat_registers.new_register_state.Statement.{statement}
use Rattle.exports.proofs.flat_registers.new_register_state.Tie as tie

returns : tie.Need-returns
returns c = (c.accept.ensures, c.before.state_numbers.ensures ∙ ap state_numbers c.before.before.new_register_state.ensures)

pub new_register_state_spec : {M : Type 1} → statement M
new_register_state_spec = tie.close (tie.spec (λ c κs. search rules) (λ c κs. search rules) (λ c κs. search rules) returns)
