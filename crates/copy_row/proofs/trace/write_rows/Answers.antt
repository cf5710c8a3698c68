-- `copy_row::trace::write_rows` meets its contract. The invariant: the table is what it is to be after `k` rows. A turn writes row `k`, a
-- record's or padding, into the part that was lent. Assumes nothing.
use mathlib.Core.Path.{◌≡◌, refl, sym, ap, ◌∙◌}
use Prim.Native.Nat.{◌+◌}
use native.Mathlib.Omega.{arith}
use lib.ListN.{length, length-take, length-drop}
use Rattle.std.specs.Prelude.{Ok}
use Rattle.copy_row.specs.Trace.{copy_row, copy_after}
use Rattle.copy_row.proofs.CopyTable.{no_rows, next_row, after_length, row_of_record, row_of_none}
use Rattle.copy_row.proofs.trace.write_rows.Goals as goal
use Rattle.copy_row.proofs.trace.write_rows.Goals.{then-k-n, else-k-n}

pub loop-k-init : goal.loop-k-init
loop-k-init c =
    (refl, sym (no_rows c.args.ops.now c.args.table.now))

pub record_at-requires : goal.record_at-requires
record_at-requires c = omega arith

pub write_row-requires : goal.write_row-requires
write_row-requires c = (
  simp (length-take, length-drop) (omega arith),
  rw c.record_at.ensures (simp (length-take, length-drop) (omega arith)),
)

pub write_padding-requires : goal.write_padding-requires
write_padding-requires c = simp (length-take, length-drop) (omega arith)

pub loop-k-preserved : goal.loop-k-preserved
loop-k-preserved c =
    let ops = c.args.ops.now in
    let table₀ = c.args.table.now in
    let k = c.loop-k.k in
    let written : c.if-k-n.table ≡ copy_after ops (Ok (k + 1)) table₀ =
    elim c.if-k-n.branch [
      | then-k-n w ↦
          let row = w.write_row.ensures ∙ ap copy_row w.record_at.ensures ∙ sym (row_of_record ops k (omega arith)) in
          w.table-is ∙ next_row ops table₀ c.loop-k.table _ k c.loop-k.invariant.1 row (omega arith)
      | else-k-n w ↦
          let row = w.write_padding.ensures ∙ sym (row_of_none ops k (omega arith)) in
          w.table-is ∙ next_row ops table₀ c.loop-k.table _ k c.loop-k.invariant.1 row (omega arith)
    ] in
    (ap length written ∙ after_length ops (Ok (k + 1)) table₀, written)

pub returns : goal.returns
returns c =
    let e : c.loop-k.k ≡ c.args.rows = omega arith in
    rw e at c.loop-k.invariant.1
