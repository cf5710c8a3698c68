-- `memw::rows::carries` meets its contract: each CARRY is that of the low word. Assumes nothing.
use borrow.Author.Rules.{rules}
use Rattle.memw.proofs.rows.carries.Statement.{statement}
use Rattle.memw.proofs.rows.carries.Tie as tie

returns : tie.Need-returns
returns c =
    let at_carry5 = c.before.before in
    let at_carry4 = at_carry5.before in
    let at_carry3 = at_carry4.before in
    let at_carry2 = at_carry3.before in
    let at_carry = at_carry2.before in
    let at_low_word = at_carry.before in
    rw (
      at_carry.carry.ensures,
      at_carry2.carry-2.ensures,
      at_carry3.carry-3.ensures,
      at_carry4.carry-4.ensures,
      at_carry5.carry-5.ensures,
      c.before.carry-6.ensures,
      c.carry-7.ensures,
      at_low_word.low_word-low.ensures,
    )

pub carries_spec : {M : Type 1} → statement M
carries_spec =
    tie.close
    (tie.spec
    (λ c κs. search rules) (λ c κs. search rules) (λ c κs. search rules) (λ c κs. search rules) (λ c κs. search rules)
    (λ c κs. search rules) (λ c κs. search rules) (λ c κs. search rules)
    returns)
