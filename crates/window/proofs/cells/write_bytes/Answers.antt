-- `window::cells::write_bytes` meets its contract: the part that came back has the first values. Assumes nothing.
use mathlib.Core.Path.{◌≡◌, sym, ◌∙◌}
use native.Mathlib.Omega.{arith}
use borrow.Author.Rules.{rules}
use lib.ListN.{length}
use Rattle.std.proofs.lemmas.List.{take_all}
use Rattle.window.proofs.WindowLaws.{part_written}
use Rattle.window.proofs.cells.write_bytes.Goals as goal

pub returns-then-width-eq8 : goal.returns-then-width-eq8
returns-then-width-eq8 c =
    let a = c.args in
    let n : length a.value ≡ 8 = search rules in
    part_written a.bytes.now _ a.at a.width _ (omega arith) (omega arith) a.value (omega arith)
    (c.copy_from_slice.ensures.after ∙ sym (take_all a.width a.value (omega arith)))

pub returns-else-width-eq8 : goal.returns-else-width-eq8
returns-else-width-eq8 c =
    let a = c.args in
    let n : length a.value ≡ 8 = search rules in
    part_written a.bytes.now _ a.at a.width _ (omega arith) (omega arith) a.value (omega arith) c.copy_from_slice-else-width-eq8.ensures.after
