-- `rights::cover::gives` meets its contract: the tests in the definition's order, the last one by a difference. Assumes nothing.
use mathlib.Core.Path.{sym, ◌∙◌}
use Prim.Native.Nat.{◌-◌}
use native.Mathlib.Omega.{arith}
use lib.Dec.{ltb}
use Rattle.rights.proofs.CoverLaws.{other_party, no_right, starts_above, by_difference}
use Rattle.rights.proofs.cover.gives.Goals as goal

pub returns-then-owner-party : goal.returns-then-owner-party
returns-then-owner-party c =
    let a = c.args in
    other_party a.party a.right a.x a.entry.now (λ q. c.if-owner-party.true (c.number-owner.ensures ∙ q))

pub returns-then-number-ne1 : goal.returns-then-number-ne1
returns-then-number-ne1 c =
    let a = c.args in
    no_right a.party a.right a.x a.entry.now (sym c.number-owner.ensures ∙ c.if-owner-party.false)
    (λ q. c.if-number-ne1.true (c.number.ensures ∙ q))

pub returns-then-x-start : goal.returns-then-x-start
returns-then-x-start c =
    let a = c.args in
    starts_above a.party a.right a.x a.entry.now (sym c.number-owner.ensures ∙ c.if-owner-party.false)
    (sym c.number.ensures ∙ c.if-number-ne1.false) (omega (arith, c.number-start.ensures))

pub returns : goal.returns
returns c =
    let a = c.args in
    let start = c.number-start.ensures in
    (λ i. ltb (a.x - start i) (c.number-2.ensures i))
    ∙ by_difference a.party a.right a.x a.entry.now (sym c.number-owner.ensures ∙ c.if-owner-party.false)
    (sym c.number.ensures ∙ c.if-number-ne1.false) (omega (arith, start))
