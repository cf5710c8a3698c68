use mathlib.Core.Path.{◌≡◌}
use lib.ListN.{length}
use Rattle.load.proofs.Loaded.{LoadedAt}
use Rattle.load.proofs.draws.write_calls.Given as goal

abbrev pub invariant-loop-k : goal.invariant-loop-k
invariant-loop-k l =
    (length l.calls ≡ length l.initial.calls) × LoadedAt l.s l.initial.calls l.calls l.load.state l.load.index l.stamp l.k
