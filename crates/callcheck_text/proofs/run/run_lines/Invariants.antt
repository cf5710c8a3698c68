-- The loop of `callcheck_text::run::run_lines`: finishing from each line on gives the whole.
use Prim.Native.Nat.{◌-◌}
use lib.ListN.{length}
use Rattle.expansion.specs.Tries.{under, lent}
use Rattle.callcheck_text.proofs.Turns.{Running}
use Rattle.callcheck_text.proofs.run.run_lines.Given as goal

abbrev pub invariant-loop-at : goal.invariant-loop-at
invariant-loop-at l =
    Running (under l.gap) l.text (lent l.initial.bytes l.initial.stamps l.initial.ops l.initial.accesses) (lent l.bytes l.stamps l.ops l.accesses) l.at l.line l.rows

abbrev pub decreases-loop-at : goal.decreases-loop-at
decreases-loop-at l = length l.text - l.at
