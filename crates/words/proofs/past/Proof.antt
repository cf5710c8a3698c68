-- `words::past` meets its contract. Assumes nothing.
use Rattle.std.proofs.Common.{◌+◌, sym, arith, lt-ltb}
use Rattle.words.proofs.Wrap.{past_by_difference}
use Rattle.words.proofs.past.Statement.{statement}
use Rattle.words.proofs.past.Tie as tie

returns : tie.Need-returns-then-end-at
returns c =
    let a = c.before.args in
    sym (lt-ltb a.end (a.at + a.count) (omega arith))

returns_2 : tie.Need-returns
returns_2 c =
    let a = c.before.args in
    past_by_difference a.end a.at a.count c.if-end-at.false

pub past_spec : {M : Type 1} → statement M
past_spec = tie.close (tie.spec returns returns_2)
