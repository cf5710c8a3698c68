-- `memw::rows::address_parts` meets its contract: two halves and a word of one address. Assumes nothing.
use borrow.Author.Rules.{rules}
use Rattle.memw.proofs.rows.address_parts.Statement.{statement}
use Rattle.memw.proofs.rows.address_parts.Tie as tie

pub address_parts_spec : {M : Type 1} → statement M
address_parts_spec =
    tie.close
    (tie.spec (λ c κs. search rules) (λ c κs. search rules) (λ c. search rules) (λ c. search rules) (λ c. search rules)
    (λ c. rw (c.before.halves-low.ensures, c.words-high.ensures)))
