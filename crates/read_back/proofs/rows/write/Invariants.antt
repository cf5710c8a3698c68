use mathlib.Core.Bool.{true, false}
use Rattle.lists.proofs.Filled.{Filled}
use Rattle.read_back.proofs.Walk.{read_at, part_at}
use Rattle.read_back.proofs.rows.write.Given as goal

abbrev pub invariant-loop-k : goal.invariant-loop-k
invariant-loop-k l =
    Filled (read_at false l.rows) (part_at false l.rows) l.initial.ops l.ops l.o l.k × Filled (read_at true l.rows) (part_at true l.rows) l.initial.calls l.calls l.c l.k
