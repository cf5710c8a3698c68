-- `exports::flat_registers::state_of` meets its contract, field by field. Assumes nothing.
use borrow.Author.Rules.{rules}
use Rattle.lists.specs.Lists.{at}
use Rattle.exports.proofs.flat_registers.state_of.Statement.{statement}
use Rattle.exports.proofs.flat_registers.state_of.Tie as tie

returns : tie.Need-returns
returns c =
    let flat = c.before.before.args.flat in
    λ i. record {
      values = c.before.thirty_two.ensures i;
      stamps = c.thirty_two-2.ensures i;
      index = at flat 64;
      index_stamp = at flat 65;
      pc = at flat 66;
      pc_stamp = at flat 67;
    }

pub state_of_spec : {M : Type 1} → statement M
state_of_spec =
    tie.close
    (tie.spec
    (λ c κs. search rules) (λ c κs. search rules) (λ c. search rules) (λ c. search rules) (λ c. search rules)
    (λ c. search rules) (λ c. search rules)
    returns)
