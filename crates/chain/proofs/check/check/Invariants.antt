use Rattle.chain.proofs.Rows.{Walk}
use Rattle.chain.proofs.check.check.Given as goal

abbrev pub invariant-loop-k : goal.invariant-loop-k
invariant-loop-k l = Walk l.gap l.rows l.previous l.k
