-- `memw::trace::write_rows` meets its contract. The invariant: the table is what it is to be after `k` rows. A turn writes row `k` into the
-- part that was lent. Assumes nothing.
use mathlib.Core.Path.{◌≡◌, refl, sym, ap, ◌∙◌}
use Prim.Native.Nat.{ℕ, ◌+◌, ◌*◌, ◌≤◌}
use native.Mathlib.Omega.{arith}
use lib.ListN.{length, length-take, length-drop}
use Rattle.lists.proofs.Flat.{row_within}
use Rattle.records.specs.Records.{record_count}
use Rattle.std.specs.Prelude.{Ok}
use Rattle.memw.specs.Tables.{row_width}
use Rattle.memw.proofs.AccessTables.{record_width_bounds, no_rows, next_row, after_length}
use Rattle.memw.proofs.trace.write_rows.Goals as goal
use Rattle.memw.proofs.trace.write_rows.Goals.{In-loop-k}

-- row `k` ends within the table
ends : (c : In-loop-k) → let v = c.row_width-v.result in v * c.loop-k.k + v ≤ length c.loop-k.table
ends c =
    rw c.row_width-v.ensures
    (omega (arith, row_within (row_width c.args.t) c.loop-k.k c.args.rows c.loop-k-test.true, c.requires.1))

pub record_count-n-requires : goal.record_count-n-requires
record_count-n-requires c =
    rw c.record_width-w.ensures (record_width_bounds c.args.t)

pub loop-k-init : goal.loop-k-init
loop-k-init c =
    let args = c.args in
    (refl, sym (no_rows args.t args.records.now args.table.now))

pub overflow_mul-v : goal.overflow_mul-v
overflow_mul-v c = omega (arith, ends (goal.at.overflow_mul-v c).In-loop-k)

pub overflow_mul-v-in-loop-k : goal.overflow_mul-v-in-loop-k
overflow_mul-v-in-loop-k c = omega (arith, ends (goal.at.overflow_mul-v-in-loop-k c).In-loop-k)

pub overflow_add-v : goal.overflow_add-v
overflow_add-v c = omega (arith, ends (goal.at.overflow_add-v c).In-loop-k)

pub offset_bounds-table-v : goal.offset_bounds-table-v
offset_bounds-table-v c = omega (arith, ends (goal.at.offset_bounds-table-v c).In-loop-k)

pub slice_bounds-write_row_at-count : goal.slice_bounds-write_row_at-count
slice_bounds-write_row_at-count c = omega (arith, ends (goal.at.slice_bounds-write_row_at-count c).In-loop-k)

pub slice_bounds-write_row_at-start : goal.slice_bounds-write_row_at-start
slice_bounds-write_row_at-start c = omega (arith, ends (goal.at.slice_bounds-write_row_at-start c).In-loop-k)

pub slice_bounds-write_row_at-end : goal.slice_bounds-write_row_at-end
slice_bounds-write_row_at-end c = omega (arith, ends (goal.at.slice_bounds-write_row_at-end c).In-loop-k)

pub write_row_at-requires : goal.write_row_at-requires
write_row_at-requires c =
    let w = c.record_width-w.ensures in
    let n = c.record_count-n.ensures ∙ ap (λ (x : ℕ). record_count x c.args.records.now) w in
    (w, n, rw n c.requires.0, simp (length-take, length-drop) (omega (arith, ends (goal.at.write_row_at-requires c).In-loop-k, c.row_width-v.ensures)))

pub loop-k-preserved : goal.loop-k-preserved
loop-k-preserved c =
    let args = c.args in
    let k = c.loop-k.k in
    let v = c.row_width-v.ensures in
    let fits : row_width args.t * k + row_width args.t ≤ length args.table.now =
    omega (arith, row_within (row_width args.t) k args.rows c.loop-k-test.true, c.requires.1) in
    let written =
    next_row args.t args.records.now args.table.now c.loop-k.table _ k c.loop-k.invariant.1 c.write_row_at.ensures fits in
    (rw v (ap length written ∙ after_length args.t args.records.now (Ok (k + 1)) args.table.now), rw v written)

pub returns : goal.returns
returns c =
    let e : c.loop-k.k ≡ c.args.rows = omega arith in
    rw e at c.loop-k.invariant.1
