-- `memw::trace::write_row_at` meets its contract: a record's row below the record count, padding from there on. Assumes nothing.
use mathlib.Core.Path.{sym, ap, ◌∙◌}
use Prim.Native.Nat.{ℕ}
use native.Mathlib.Omega.{arith}
use lib.ListN.{length, replicate}
use Rattle.lists.proofs.Flat.{row_within}
use Rattle.records.specs.Records.{record_at}
use Rattle.records.proofs.Records.{record_length}
use Rattle.access.specs.Tables.{record_width}
use Rattle.memw.specs.Tables.{record_row}
use Rattle.memw.proofs.AccessTables.{row_of_record, row_of_none}
use Rattle.memw.proofs.trace.write_row_at.Goals as goal

pub record_at-requires : goal.record_at-requires
record_at-requires c =
    rw c.requires.0 (omega (arith, row_within (record_width c.args.t) c.args.k c.args.n c.if-k-n.true))

pub write_row-requires : goal.write_row-requires
write_row-requires c =
    let w = record_width c.args.t in
    let records = c.args.records.now in
    let ends = row_within w c.args.k c.args.n c.if-k-n.true in
    let read = c.record_at.ensures ∙ ap (λ (w : ℕ). record_at w records c.args.k) c.requires.0 in
    (c.requires.3, ap length read ∙ record_length w records c.args.k (omega arith))

pub returns-then-k-n : goal.returns-then-k-n
returns-then-k-n c =
    let args = c.args in
    let records = args.records.now in
    let read = c.record_at.ensures ∙ ap (λ (w : ℕ). record_at w records args.k) c.requires.0 in
    c.write_row.ensures ∙ ap (record_row args.t) read ∙ sym (row_of_record args.t records args.k (omega arith))

pub returns-else-k-n : goal.returns-else-k-n
returns-else-k-n c =
    let args = c.args in
    c.clear.ensures ∙ ap (λ (n : ℕ). replicate n 0) c.requires.3 ∙ sym (row_of_none args.t args.records.now args.k (omega arith))
