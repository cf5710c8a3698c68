-- `memw::tables::write_row` meets its contract: in each case, what is put into the row are the cells of the record. Assumes nothing.
use mathlib.Core.Path.{◌≡◌, sym, ap, ◌∙◌}
use mathlib.Core.List.{List, ◌++◌, append-nil}
use Prim.Native.Nat.{ℕ}
use native.Mathlib.Omega.{arith}
use lib.ListN.{length, take, drop, drop_of_length-le}
use lib.Seq.{length-take-le}
use Rattle.memw.specs.Rows.{memw_row, aligned_row, register_row}
use Rattle.memw.proofs.Wide.{memw_wide, aligned_wide, register_wide}
use Rattle.access.specs.Tables.{record_width}
use Rattle.access.specs.declared.AccessTable.TheVariants.{General}
use Rattle.memw.specs.Tables.{row_width}
use Rattle.memw.proofs.tables.write_row.Goals as goal

-- the row is as wide as the cells; the general table lends on a part that is the whole row, and what comes back in its place is the row
part_wide : (row : List ℕ) (n : ℕ) → length row ≡ n → length (take n row) ≡ n
part_wide row n e = length-take-le n row (omega arith)

whole : (row cells : List ℕ) (n : ℕ) → length row ≡ n → cells ++ drop n row ≡ cells
whole row cells n e = ap (λ (r : List ℕ). cells ++ r) (drop_of_length-le row {i = n} (omega arith)) ∙ append-nil cells

-- the record is as wide as its table's are
pub operation-requires : goal.operation-requires
operation-requires c =
    c.requires.1 ∙ ap record_width c.in-General.is

pub slice_bounds-put-end : goal.slice_bounds-put-end
slice_bounds-put-end c =
    let wide = c.requires.0 ∙ ap row_width c.in-General.is in
    omega arith

pub put-requires : goal.put-requires
put-requires c =
    let wide = c.requires.0 ∙ ap row_width c.in-General.is in
    part_wide c.args.row.now (row_width General) wide ∙ sym (ap length c.memw_cells-cells.ensures ∙ memw_wide _)

pub operation-requires-in-Aligned : goal.operation-requires-in-Aligned
operation-requires-in-Aligned c =
    c.requires.1 ∙ ap record_width c.in-Aligned.is

pub put-requires-in-Aligned : goal.put-requires-in-Aligned
put-requires-in-Aligned c =
    c.requires.0 ∙ ap row_width c.in-Aligned.is
    ∙ sym (ap length c.aligned_cells-cells.ensures ∙ aligned_wide _)

pub reg_row-requires : goal.reg_row-requires
reg_row-requires c =
    c.requires.1 ∙ ap record_width c.in-Register.is

pub put-requires-in-Register : goal.put-requires-in-Register
put-requires-in-Register c =
    c.requires.0 ∙ ap row_width c.in-Register.is
    ∙ sym (ap length c.register_cells-cells.ensures ∙ register_wide _)

pub returns-in-General : goal.returns-in-General
returns-in-General c =
    let wide = c.requires.0 ∙ ap row_width c.in-General.is in
    rw c.in-General.is
    (whole c.args.row.now _ (row_width General) wide
    ∙ c.put.ensures ∙ c.memw_cells-cells.ensures ∙ ap memw_row c.operation.ensures)

pub returns-in-Aligned : goal.returns-in-Aligned
returns-in-Aligned c =
    rw c.in-Aligned.is
    (c.put-in-Aligned.ensures ∙ c.aligned_cells-cells.ensures ∙ ap aligned_row c.operation-in-Aligned.ensures)

pub returns-in-Register : goal.returns-in-Register
returns-in-Register c =
    rw c.in-Register.is
    (c.put-in-Register.ensures ∙ c.register_cells-cells.ensures ∙ ap register_row c.reg_row.ensures)
