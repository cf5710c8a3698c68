-- `copy_row::row::dst_res` meets its contract, by the test of the kind. Assumes nothing.
use borrow.Author.Rules.{rules}
use borrow.Author.Tests.{eq-eqb, ne_eqb}
use Rattle.copy_row.proofs.row.dst_res.Statement.{statement}
use Rattle.copy_row.proofs.row.dst_res.Tie as tie

returns : tie.Need-returns-then-op-eq2
returns c = rw (eq-eqb _ _ c.before.if-op-eq2.true) c.wrapping_add.ensures

returns_2 : tie.Need-returns-else-op-eq2
returns_2 c = rw (ne_eqb _ _ c.if-op-eq2.false)

pub dst_res_spec : {M : Type 1} → statement M
dst_res_spec = tie.close (tie.spec (λ c κs. search rules) returns returns_2)
