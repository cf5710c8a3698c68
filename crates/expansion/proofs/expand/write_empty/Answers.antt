-- `expansion::expand::write_empty` meets its contract. Assumes nothing.
use mathlib.Core.Path.{◌≡◌, ap, ◌∙◌}
use mathlib.Core.Bool.{true}
use mathlib.Core.List.{List}
use Prim.Native.Nat.{ℕ}
use native.Mathlib.Omega.{arith}
use lib.Dec.{leb}
use lib.ListN.{length}
use borrow.Author.Tests.{le-leb}
use Rattle.lists.specs.Lists.{store}
use Rattle.lists.proofs.Store.{part_store}
use Rattle.call.specs.Ops.{OP_WIDTH}
use Rattle.expansion.proofs.expand.write_empty.Goals as goal

pub returns : goal.returns
returns c =
    let a = c.args in
    let part = c.copy_from_slice.new.self in
    let long : length part ≡ OP_WIDTH = ap length c.copy_from_slice.ensures.after ∙ ap length c.op_record-numbers.ensures in
    let end : leb a.call.count 1 ≡ true = le-leb a.call.count 1 (omega (arith, c.requires.0)) in
    part_store a.ops.now part 0 OP_WIDTH long c.requires.1
    ∙ ap (λ (x : List ℕ). store a.ops.now 0 x) (c.copy_from_slice.ensures.after ∙ c.op_record-numbers.ensures ∙ rw end)
