use Rattle.rights.proofs.EntryLaws.{PastFrom}
use Rattle.rights.proofs.entries.past_window.Given as goal

abbrev pub invariant-loop-k : goal.invariant-loop-k
invariant-loop-k l = PastFrom l.entries l.cells l.k
