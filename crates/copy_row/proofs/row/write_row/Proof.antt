-- `copy_row::row::write_row` meets its contract: what is put into the row are the cells of the record's operation. Assumes nothing.
use borrow.Author.Rules.{rules}
use mathlib.Core.Path.{ap, ◌∙◌}
use Rattle.copy_row.specs.Rows.{table_row}
use Rattle.copy_row.proofs.row.write_row.Statement.{statement}
use Rattle.copy_row.proofs.row.write_row.Tie as tie

returns : tie.Need-returns
returns c =
    let at_put = c.before.before in
    let at_cells = at_put.before.before.before in
    at_put.put.ensures ∙ at_cells.cells-row_cells.ensures ∙ ap table_row at_cells.before.operation.ensures

pub write_row_spec : {M : Type 1} → statement M
write_row_spec =
    tie.close
    (tie.spec
    (λ c κs. search rules) (λ c κs. search rules) (λ c. search rules) (λ c κs. search rules) (λ c. search rules)
    returns)
