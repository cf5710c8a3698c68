use mathlib.Core.Path.{◌≡◌}
use Rattle.rights.specs.Rights.{covered}
use Rattle.rights.proofs.cover.covers.Given as goal

abbrev pub invariant-loop-left : goal.invariant-loop-left
invariant-loop-left l = covered l.entries l.party l.right l.start l.count ≡ covered l.entries l.party l.right l.at l.left

abbrev pub decreases-loop-left : goal.decreases-loop-left
decreases-loop-left l = l.left
