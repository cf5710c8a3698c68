-- `exports::flat_access::put_front` meets its contract: the first 8 numbers are put, and the others stay. Assumes nothing.
use borrow.Author.Rules.{rules}
use Rattle.exports.proofs.flat_access.put_front.Statement.{statement}
use Rattle.exports.proofs.flat_access.put_front.Tie as tie

returns : tie.Need-returns
returns c = rw c.before.before.put.ensures

pub put_front_spec : {M : Type 1} → statement M
put_front_spec =
    tie.close
    (tie.spec
    (λ c. search rules) (λ c. search rules) (λ c. search rules) (λ c. search rules) (λ c. search rules)
    (λ c. search rules) (λ c κs. search rules) (λ c. search rules)
    returns)
