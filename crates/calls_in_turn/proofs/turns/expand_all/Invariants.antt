use Rattle.expansion.specs.Tries.{under, lent}
use Rattle.calls_in_turn.proofs.Expanding.{Going}
use Rattle.calls_in_turn.proofs.turns.expand_all.Given as goal

abbrev pub invariant-loop-k : goal.invariant-loop-k
invariant-loop-k l =
    Going (under l.gap) l.calls (lent l.initial.bytes l.initial.stamps l.initial.ops l.initial.accesses) l.n (lent l.bytes l.stamps l.ops l.accesses) l.done l.k
