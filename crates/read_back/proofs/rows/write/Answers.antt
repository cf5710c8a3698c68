-- `rows::write`: the rows passed have their numbers written. Assumes nothing.
use mathlib.Core.Bool.{true, false}
use native.Mathlib.Omega.{arith}
use Rattle.lists.proofs.Filled.{filled_start}
use Rattle.read_back.proofs.Walk.{row_room, row_written}
use Rattle.read_back.proofs.Read.{holds_of}
use Rattle.read_back.proofs.rows.write.Goals as goal

pub loop-k-init : goal.loop-k-init
loop-k-init c = (filled_start _ _ _, filled_start _ _ _)

pub put_row-o-requires : goal.put_row-o-requires
put_row-o-requires c =
    row_room _ c.requires.rows_fit false _ _ _ _ c.loop-k.invariant.0 (omega arith) (holds_of _ _ _ c.requires.calls_value).holds_ops
    _ c.record_at.ensures

pub put_row-c-requires : goal.put_row-c-requires
put_row-c-requires c =
    row_room _ c.requires.rows_fit true _ _ _ _ c.loop-k.invariant.1 (omega arith) (holds_of _ _ _ c.requires.calls_value).holds_calls
    _ c.record_at.ensures

pub loop-k-preserved : goal.loop-k-preserved
loop-k-preserved c =
    let fit = c.requires.rows_fit in
    let is = c.record_at.ensures in (
      row_written _ fit false _ _ _ _ c.loop-k.invariant.0 _ is _ _ c.put_row-o.ensures.count c.put_row-o.ensures.out,
      row_written _ fit true _ _ _ _ c.loop-k.invariant.1 _ is _ _ c.put_row-c.ensures.count c.put_row-c.ensures.out,
    )
