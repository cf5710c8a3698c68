use mathlib.Core.Path.{◌≡◌}
use lib.ListN.{length}
use Rattle.std.specs.Prelude.{Ok}
use Rattle.copy_row.specs.Trace.{copy_after}
use Rattle.copy_row.proofs.trace.write_rows.Given as goal

abbrev pub invariant-loop-k : goal.invariant-loop-k
invariant-loop-k l =
    (length l.table ≡ length l.initial.table) × (l.table ≡ copy_after l.ops (Ok l.k) l.initial.table)
