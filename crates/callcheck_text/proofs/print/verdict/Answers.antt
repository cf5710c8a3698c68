-- `callcheck_text::print::verdict` meets its contract: the rows that were made fit into the table, and just these are checked. Assumes nothing.
use mathlib.Core.Path.{◌≡◌, ◌∙◌}
use native.Mathlib.Omega.{arith}
use Prim.Native.Nat.{◌*◌, ◌≤◌}
use lib.ListN.{length, length-take}
use Rattle.answer.proofs.Parts.{value_same}
use Rattle.records.specs.Records.{LIMIT}
use Rattle.records.specs.Table.{table_numbers}
use Rattle.copy_row.specs.Columns.{COLUMNS}
use Rattle.copy_row.specs.Trace.{copy_answer}
use Rattle.callcheck_text.specs.Output.{TABLE_ROOM}
use Rattle.callcheck_text.proofs.Printed.{rows_of, table_fits, told, verdict_is}
use Rattle.callcheck_text.proofs.print.verdict.Goals as goal
use Rattle.callcheck_text.proofs.print.verdict.Goals.{After-unwrap_or-rows}

-- how many rows were made
made_rows : (c : After-unwrap_or-rows) → c.unwrap_or-rows.result ≡ (table_numbers 8 (copy_answer LIMIT c.args.ops.now TABLE_ROOM)).value
made_rows c = c.unwrap_or-rows.ensures ∙ rows_of c.generate_copy_trace.result ∙ value_same c.generate_copy_trace.ensures.answer

pub overflow_mul-table : goal.overflow_mul-table
overflow_mul-table c = omega (arith, made_rows c, table_fits c.args.ops.now TABLE_ROOM)

pub slice_bounds-table-end : goal.slice_bounds-table-end
slice_bounds-table-end c = omega (arith, made_rows c, table_fits c.args.ops.now TABLE_ROOM)

pub slice_bounds-chain_check-end : goal.slice_bounds-chain_check-end
slice_bounds-chain_check-end c =
    let rows = made_rows (goal.at.slice_bounds-chain_check-end c).After-unwrap_or-rows in
    let fits : COLUMNS * c.unwrap_or-rows.result ≤ length c.generate_copy_trace.new.table = omega (arith, rows, table_fits c.args.ops.now TABLE_ROOM) in
    simp length-take (omega arith)

pub returns : goal.returns
returns c =
    told c.chain_check.result c.numbers.result c.numbers.ensures.ok c.numbers.ensures.err
    ∙ c.chain_check.ensures.answer
    ∙ verdict_is _ _ _ _ (made_rows (goal.at.returns c).After-unwrap_or-rows) c.generate_copy_trace.ensures.written
