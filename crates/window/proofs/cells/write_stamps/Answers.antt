-- `window::cells::write_stamps` meets its contract: the part that came back has the stamp in all its cells. Assumes nothing.
use mathlib.Core.Path.{◌≡◌, ap, ◌∙◌}
use Prim.Native.Nat.{◌+◌, ◌-◌}
use native.Mathlib.Omega.{arith}
use lib.ListN.{length, take, drop, replicate}
use Rattle.lists.proofs.Store.{run_length}
use Rattle.window.proofs.WindowLaws.{part_stamped}
use Rattle.window.proofs.cells.write_stamps.Goals as goal

pub returns-then-width-eq8 : goal.returns-then-width-eq8
returns-then-width-eq8 c =
    let a = c.args in
    let n : length (take (a.at + 8 - a.at) (drop a.at a.stamps.now)) ≡ a.width = run_length a.stamps.now a.at (a.at + 8 - a.at) (omega arith) ∙ omega arith in
    part_stamped a.stamps.now _ a.at a.width _ (omega arith) (omega arith) a.stamp
    (c.fill.ensures.after (λ y e. e) ∙ ap (λ k. replicate k a.stamp) n)

pub returns-else-width-eq8 : goal.returns-else-width-eq8
returns-else-width-eq8 c =
    let a = c.args in
    let n : length (take (a.at + a.width - a.at) (drop a.at a.stamps.now)) ≡ a.width = run_length a.stamps.now a.at (a.at + a.width - a.at) (omega arith) ∙ omega arith in
    part_stamped a.stamps.now _ a.at a.width _ (omega arith) (omega arith) a.stamp
    (c.fill-else-width-eq8.ensures.after (λ y e. e) ∙ ap (λ k. replicate k a.stamp) n)
