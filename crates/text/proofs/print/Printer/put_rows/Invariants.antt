-- The loop of `text::print::Printer::put_rows`: the lines so far are printed.
use Prim.Native.Nat.{◌+◌, ◌*◌, ◌≤◌}
use mathlib.Core.List.{◌++◌}
use mathlib.Core.Path.{◌≡◌}
use lib.ListN.{length}
use Rattle.text.specs.RowLines.{rows_text}
use Rattle.text.proofs.print.Printer.put_rows.Given as goal

abbrev pub invariant-loop-k : goal.invariant-loop-k
invariant-loop-k g l = record {
  printed : l.self ≡ l.initial.self ++ rows_text 0 l.k l.ops;
  upper_bound : length l.self ≤ length l.initial.self + 178 * l.k;
}
