-- `copy_row::trace::make`: what an accepted list says of its records and the table is what `write_rows` requires; a refusal leaves the
-- table as it was. Assumes nothing.
use Rattle.std.proofs.Common.{sym, ap, length}
use Rattle.records.specs.Table.{TableAnswer, table_after}
use Rattle.copy_row.specs.Trace.{copy_after}
use Rattle.copy_row.proofs.CopyTable.{made_facts, made_whole}
use Rattle.copy_row.proofs.trace.make.Goals as goal

pub returns-in_err-rows-clause-table : goal.returns-in_err-rows-clause-table
unfolding copy_after table_after
returns-in_err-rows-clause-table c =
    ap (λ (a : TableAnswer). copy_after c.args.ops.now a c.args.table.now) c.in_err-rows.ensures

pub write_rows-requires : goal.write_rows-requires
write_rows-requires c =
    let args = c.args in
    let ops = args.ops.now in
    let room = length args.table.now in
    let made = sym c.in_ok-rows.ensures in
    (made_whole args.limit ops room _ made, (made_facts args.limit ops room _ made).fits)
