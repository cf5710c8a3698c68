-- `window::cells::read` meets its contract: eight cells, or fewer over eight that are `zero`. Assumes nothing.
use native.Mathlib.Omega.{arith}
use Rattle.window.proofs.WindowLaws.{cells_over, cells_all}
use Rattle.window.proofs.cells.read.Goals as goal

pub returns-then-width-eq8 : goal.returns-then-width-eq8
returns-then-width-eq8 g c =
    let a = c.args in
    cells_all a.zero a.cells.now _ a.at a.width (omega arith) (omega arith) c.copy_from_slice.ensures.after

pub returns-else-width-eq8 : goal.returns-else-width-eq8
returns-else-width-eq8 g c =
    let a = c.args in
    cells_over a.zero a.cells.now a.at a.width (omega arith) (omega arith) _ c.copy_from_slice-else-width-eq8.ensures.after
