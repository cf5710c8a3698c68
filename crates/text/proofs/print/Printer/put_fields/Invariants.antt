-- The loop of `text::print::Printer::put_fields`: the fields so far are printed.
use Prim.Native.Nat.{◌+◌, ◌*◌, ◌≤◌}
use mathlib.Core.List.{◌++◌}
use mathlib.Core.Path.{◌≡◌}
use lib.ListN.{length, take}
use Rattle.text.specs.RowLines.{fields_text}
use Rattle.text.proofs.print.Printer.put_fields.Given as goal

abbrev pub invariant-loop-n : goal.invariant-loop-n
invariant-loop-n g l = record {
  printed : l.self ≡ l.initial.self ++ fields_text (take l.n-index l.numbers);
  upper_bound : length l.self ≤ length l.initial.self + 21 * l.n-index;
}
