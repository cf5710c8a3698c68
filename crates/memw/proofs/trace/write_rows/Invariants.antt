use mathlib.Core.Path.{◌≡◌}
use lib.ListN.{length}
use Rattle.std.specs.Prelude.{Ok}
use Rattle.memw.specs.Tables.{memw_after}
use Rattle.memw.proofs.trace.write_rows.Given as goal

abbrev pub invariant-loop-k : goal.invariant-loop-k
invariant-loop-k l =
    (length l.table ≡ length l.initial.table) × (l.table ≡ memw_after l.t l.records (Ok l.k) l.initial.table)
