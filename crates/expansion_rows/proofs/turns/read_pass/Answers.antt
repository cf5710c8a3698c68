-- `expansion_rows::turns::read_pass` meets its contract. The invariant: going on from here gives what the whole pass gives. Assumes
-- nothing.
use mathlib.Core.Path.{◌≡◌, refl, ap, ◌∙◌}
use lib.Dec.{eqb}
use Prim.Native.Nat.{◌+◌, ◌-◌, ◌*◌}
use native.Mathlib.Omega.{arith}
use Rattle.lists.proofs.Store.{run_length}
use Rattle.call.specs.Calls.{Call}
use Rattle.call.specs.Inner.{call_of}
use Rattle.call.specs.Ops.{OP_WIDTH}
use Rattle.access.specs.Access.{ACCESS_WIDTH}
use Rattle.expansion_rows.proofs.RowList.{bit_lem}
use Rattle.expansion_rows.proofs.ReadLoop.{Ahead, pass_start, ahead, pass_turn, pass_end}
use Rattle.expansion_rows.proofs.turns.read_pass.Goals as goal
use Rattle.expansion_rows.proofs.turns.read_pass.Goals.{After-copy_row_width-width}

-- what a turn may count on, once its width is known
ahead_at : (c : After-copy_row_width-width)
    → let l = c.loop-left in
    Ahead (1 + c.from-per.result) l.window.bytes.now l.window.stamps.now l.ops l.accesses (call_of l.left) l.k l.j c.copy_row_width-width.result
ahead_at c =
    let a = c.args in
    let l = c.loop-left in
    ahead (call_of a.call) a.window.now.bytes.now a.window.now.stamps.now a.ops.now a.accesses.now (1 + c.from-per.result)
    l.window.bytes.now l.window.stamps.now l.ops l.accesses (call_of l.left) l.first l.k l.j l.invariant.at
    c.requires c.loop-left-test.true c.copy_row_width-width.result c.copy_row_width-width.ensures

pub loop-left-init : goal.loop-left-init
loop-left-init c =
    let a = c.args in
    record {
      at = pass_start (call_of a.call) a.window.now.bytes.now a.window.now.stamps.now a.ops.now a.accesses.now (1 + c.from-per.result) a.window.now.same
          (ap (λ n. 1 + n) (c.from-per.ensures ∙ bit_lem (eqb a.call.kind 1)));
      same = (refl, refl);
    }

pub overflow_mul-k : goal.overflow_mul-k
overflow_mul-k c = omega (arith, ahead_at (goal.at.overflow_mul-k c).After-copy_row_width-width)

pub overflow_mul-k-in-loop-left : goal.overflow_mul-k-in-loop-left
overflow_mul-k-in-loop-left c = omega (arith, ahead_at (goal.at.overflow_mul-k-in-loop-left c).After-copy_row_width-width)

pub overflow_add-k : goal.overflow_add-k
overflow_add-k c = omega (arith, ahead_at (goal.at.overflow_add-k c).After-copy_row_width-width)

pub offset_bounds-ops-k : goal.offset_bounds-ops-k
offset_bounds-ops-k c = omega (arith, ahead_at (goal.at.offset_bounds-ops-k c).After-copy_row_width-width)

pub slice_bounds-row_turn-count : goal.slice_bounds-row_turn-count
slice_bounds-row_turn-count c = omega (arith, ahead_at (goal.at.slice_bounds-row_turn-count c).After-copy_row_width-width)

pub slice_bounds-row_turn-start : goal.slice_bounds-row_turn-start
slice_bounds-row_turn-start c = omega (arith, ahead_at (goal.at.slice_bounds-row_turn-start c).After-copy_row_width-width)

pub slice_bounds-row_turn-end : goal.slice_bounds-row_turn-end
slice_bounds-row_turn-end c = omega (arith, ahead_at (goal.at.slice_bounds-row_turn-end c).After-copy_row_width-width)

pub overflow_mul-j : goal.overflow_mul-j
overflow_mul-j c = omega (arith, ahead_at (goal.at.overflow_mul-j c).After-copy_row_width-width)

pub overflow_add-j : goal.overflow_add-j
overflow_add-j c = omega (arith, ahead_at (goal.at.overflow_add-j c).After-copy_row_width-width)

pub overflow_mul-j-in-loop-left : goal.overflow_mul-j-in-loop-left
overflow_mul-j-in-loop-left c = omega (arith, ahead_at (goal.at.overflow_mul-j-in-loop-left c).After-copy_row_width-width)

pub offset_bounds-accesses-j : goal.offset_bounds-accesses-j
offset_bounds-accesses-j c = omega (arith, ahead_at (goal.at.offset_bounds-accesses-j c).After-copy_row_width-width)

pub slice_bounds-row_turn-count-in-loop-left : goal.slice_bounds-row_turn-count-in-loop-left
slice_bounds-row_turn-count-in-loop-left c = omega (arith, ahead_at (goal.at.slice_bounds-row_turn-count-in-loop-left c).After-copy_row_width-width)

pub slice_bounds-row_turn-start-in-loop-left : goal.slice_bounds-row_turn-start-in-loop-left
slice_bounds-row_turn-start-in-loop-left c = omega (arith, ahead_at (goal.at.slice_bounds-row_turn-start-in-loop-left c).After-copy_row_width-width)

pub slice_bounds-row_turn-end-in-loop-left : goal.slice_bounds-row_turn-end-in-loop-left
slice_bounds-row_turn-end-in-loop-left c = omega (arith, ahead_at (goal.at.slice_bounds-row_turn-end-in-loop-left c).After-copy_row_width-width)

pub row_turn-requires : goal.row_turn-requires
row_turn-requires c =
    let h = ahead_at (goal.at.row_turn-requires c).After-copy_row_width-width in
    let l = c.loop-left in
    let per = 1 + c.from-per.result in
    let op = run_length l.ops (OP_WIDTH * l.k) (OP_WIDTH * l.k + OP_WIDTH - OP_WIDTH * l.k) (omega (arith, h.op_room)) in
    let access = ACCESS_WIDTH * l.j in
    let part = run_length l.accesses access (ACCESS_WIDTH * (l.j + per) - access) (omega (arith, h.access_room)) in
    (h.wide, omega (arith, h.source, h.within), h.dest, omega (arith, op), omega (arith, part, h.access_part), h.later)

pub rest-left-requires : goal.rest-left-requires
rest-left-requires c =
    let h = ahead_at (goal.at.rest-left-requires c).After-copy_row_width-width in
    (h.within, omega (arith, h.source), h.small)

pub overflow_add-k-in-loop-left : goal.overflow_add-k-in-loop-left
overflow_add-k-in-loop-left c =
    omega (arith, (ahead_at (goal.at.overflow_add-k-in-loop-left c).After-copy_row_width-width).op_room, c.loop-left.invariant.at.ops_same)

pub overflow_add-j-in-loop-left : goal.overflow_add-j-in-loop-left
overflow_add-j-in-loop-left c =
    omega (arith, (ahead_at (goal.at.overflow_add-j-in-loop-left c).After-copy_row_width-width).access_room, c.loop-left.invariant.at.accesses_same)

pub loop-left-smaller : goal.loop-left-smaller
loop-left-smaller c =
    let h = ahead_at (goal.at.loop-left-smaller c).After-copy_row_width-width in
    omega (arith, h.pos, h.within, ap (λ (x : Call). x.count) c.rest-left.ensures)

pub loop-left-preserved : goal.loop-left-preserved
loop-left-preserved c =
    let t = c.row_turn in
    let width = c.copy_row_width-width in
    let l = c.loop-left in
    let a = c.args in
    let after = t.new.window in
    let same = t.ensures.same in
    record {
      at = pass_turn (call_of a.call) a.window.now.bytes.now a.window.now.stamps.now a.ops.now a.accesses.now (1 + c.from-per.result)
          l.window.bytes.now l.window.stamps.now l.ops l.accesses (call_of l.left) l.first l.k l.j l.invariant.at
          c.requires c.loop-left-test.true width.result width.ensures
          after.bytes.now after.stamps.now t.new.op t.new.accesses (call_of c.rest-left.result)
          t.ensures.bytes_after t.ensures.stamps_after t.ensures.op_after t.ensures.accesses_after c.rest-left.ensures
          t.auto.op t.auto.accesses;
      same = (same.0 ∙ l.invariant.same.0, same.1 ∙ l.invariant.same.1);
    }

pub returns : goal.returns
returns c =
    let whole =
    let a = c.args in
    let l = c.loop-left in
    let none : l.left.count ≡ 0 = omega arith in
    let ends = pass_end (call_of a.call) a.window.now.bytes.now a.window.now.stamps.now a.ops.now a.accesses.now (1 + c.from-per.result) in
    ends l.window.bytes.now l.window.stamps.now l.ops l.accesses (call_of l.left) l.first l.k l.j l.invariant.at none in
    record { bytes_after = whole.0; stamps_after = whole.1.0; ops_after = whole.1.1.0; accesses_after = whole.1.1.1; same = c.loop-left.invariant.same }
