-- `expansion_rows::held::write_pass` meets its contract. The invariant: going on from here gives what all the writes give. Assumes
-- nothing.
use mathlib.Core.Path.{refl, ◌∙◌}
use borrow.Author.Rules.{rules}
use Prim.Native.Nat.{◌+◌, ◌-◌, ◌*◌}
use native.Mathlib.Omega.{arith}
use Rattle.lists.proofs.Store.{run_length}
use Rattle.call.specs.Ops.{OP_WIDTH}
use Rattle.access.specs.Access.{ACCESS_WIDTH}
use Rattle.expansion_rows.proofs.WriteLoop.{write_start, hand_inside, write_turn, write_end}
use Rattle.expansion_rows.proofs.held.write_pass.Goals as goal

pub loop-k-init : goal.loop-k-init
loop-k-init c =
    let a = c.args in
    let m = a.window.now in
    record { at = write_start a.n a.j m.bytes.now m.stamps.now a.ops.now a.accesses.now m.same; same = (refl, refl) }

pub write_held-requires : goal.write_held-requires
write_held-requires c =
    let a = c.args in
    let m = a.window.now in
    let l = c.loop-k in
    let p = c.requires in
    let op = run_length a.ops.now (OP_WIDTH * l.k) (OP_WIDTH * l.k + OP_WIDTH - OP_WIDTH * l.k) (search rules) in
    let to = ACCESS_WIDTH * (a.j + l.k) in
    let part = run_length l.accesses to (to + ACCESS_WIDTH - to) (search rules) in record {
      held_inside = hand_inside a.n a.j m.bytes.now m.stamps.now a.ops.now a.accesses.now l.window.bytes.now l.window.stamps.now l.accesses l.k
          l.invariant.at c.loop-k-test.true a.stamp p.0 p.2;
      op_len = (omega (arith, op), omega (arith, part));
    }

pub loop-k-preserved : goal.loop-k-preserved
loop-k-preserved c =
    let a = c.args in
    let m = a.window.now in
    let l = c.loop-k in
    let p = c.requires in
    let w = c.write_held in
    let after = w.new.window in
    let same = w.ensures.same in
    record {
      at = write_turn a.n a.j m.bytes.now m.stamps.now a.ops.now a.accesses.now l.window.bytes.now l.window.stamps.now l.accesses l.k
          l.invariant.at c.loop-k-test.true a.stamp p.0 p.2
          after.bytes.now after.stamps.now w.new.access w.ensures.bytes_after w.ensures.stamps_after w.ensures.access_after w.auto.access;
      same = (same.0 ∙ l.invariant.same.0, same.1 ∙ l.invariant.same.1);
    }

pub returns : goal.returns
returns c =
    let a = c.args in
    let m = a.window.now in
    let l = c.loop-k in
    let whole = write_end a.n a.j m.bytes.now m.stamps.now a.ops.now a.accesses.now l.window.bytes.now l.window.stamps.now l.accesses l.k
    l.invariant.at (search rules) in
    record { bytes_after = whole.0; stamps_after = whole.1.0; accesses_after = whole.1.1; same = l.invariant.same }
