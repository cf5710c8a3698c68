use Rattle.expansion.specs.Tries.{under, lengths_are}
use Rattle.calls_in_turn.proofs.Counting.{CountAt}
use Rattle.calls_in_turn.proofs.ahead.count.Given as goal

abbrev pub invariant-loop-k : goal.invariant-loop-k
invariant-loop-k l =
    CountAt (under l.gap) (lengths_are l.cells l.stamped l.room l.space) l.calls l.n l.ops l.accepted l.k
