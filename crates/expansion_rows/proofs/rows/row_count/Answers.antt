-- `expansion_rows::rows::row_count` meets its contract. The invariant: the rows counted and those of what remains are all. Assumes
-- nothing.
use mathlib.Core.Path.{ap}
use native.Mathlib.Omega.{arith}
use Rattle.call.specs.Calls.{Call}
use Rattle.call.specs.Inner.{call_of}
use Rattle.call.proofs.Cuts.{width_pos}
use Rattle.expansion_rows.proofs.Width.{width_cases, width_within}
use Rattle.expansion_rows.proofs.Widths.{row_count_start, row_count_turn, row_count_end}
use Rattle.expansion_rows.proofs.rows.row_count.Goals as goal

pub loop-left-init : goal.loop-left-init
loop-left-init c = row_count_start (call_of c.args.call)

pub rest-left-requires : goal.rest-left-requires
rest-left-requires c =
    let left = call_of c.loop-left.left in
    let within = width_within left c.loop-left-test.true in
    let inv = c.loop-left.invariant in
    (omega (arith, within, c.copy_row_width.ensures), omega (arith, inv), omega (arith, inv))

pub overflow_add-n : goal.overflow_add-n
overflow_add-n c =
    omega (arith, c.loop-left.invariant)

pub loop-left-smaller : goal.loop-left-smaller
loop-left-smaller c =
    let left = call_of c.loop-left.left in
    let less = ap (λ (x : Call). x.count) c.rest-left.ensures in
    omega (arith, less, width_pos (width_cases left), c.copy_row_width.ensures)

pub loop-left-preserved : goal.loop-left-preserved
loop-left-preserved c =
    let left = call_of c.loop-left.left in
    row_count_turn (call_of c.args.call) left (call_of c.rest-left.result) c.copy_row_width.result c.loop-left.n
    c.copy_row_width.ensures c.loop-left-test.true c.rest-left.ensures c.loop-left.invariant

pub returns : goal.returns
returns c =
    let left = call_of c.loop-left.left in
    let at = c.loop-left.invariant in record {
      value = row_count_end (call_of c.args.call) left c.loop-left.n (omega arith) at;
      upper_bound = omega (arith, at.bytes);
    }
