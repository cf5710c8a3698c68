-- `check::check`: a walk over the rows with the row before in hand; each way out is what the row check or the link check makes of the
-- answer. Assumes nothing.
use mathlib.Core.Path.{sym, ◌∙◌}
use native.Mathlib.Omega.{arith}
use Rattle.records.proofs.Records.{record_part}
use Rattle.copy_row.specs.Columns.{COLUMNS}
use Rattle.chain.proofs.Rows.{walk_start, capped, from_row, from_link, walk_on, from_end, all_passed}
use Rattle.chain.proofs.check.check.Goals as goal

pub loop-k-init : goal.loop-k-init
loop-k-init c = walk_start _ _ (omega arith) (omega arith)

pub returns-in-Err : goal.returns-in-Err
returns-in-Err c =
    let is = record_part COLUMNS c.args.rows.now c.loop-k.k in
    from_row _ _ _ _ c.loop-k.invariant (omega arith) _ is _ (sym c.row_fault.ensures ∙ c.in-Err.is)

pub invariant_of-row-clause-caps : goal.invariant_of-row-clause-caps
invariant_of-row-clause-caps c =
    let is = record_part COLUMNS c.args.rows.now c.loop-k.k in
    capped _ _ _ _ c.loop-k.invariant (omega arith) _ is (omega arith) (sym c.row_fault.ensures ∙ c.in_default.is)

pub returns-in-Err-follow_check : goal.returns-in-Err-follow_check
returns-in-Err-follow_check c =
    let is = record_part COLUMNS c.args.rows.now c.loop-k.k in
    from_link _ _ _ _ c.loop-k.invariant (omega arith) _ is
    (sym c.row_fault.ensures ∙ c.in_default.is) _ (sym c.follow_check.ensures ∙ c.in-Err-follow_check.is)

pub loop-k-preserved : goal.loop-k-preserved
loop-k-preserved c =
    let is = record_part COLUMNS c.args.rows.now c.loop-k.k in
    walk_on _ _ _ _ c.loop-k.invariant (omega arith) _ is
    (sym c.row_fault.ensures ∙ c.in_default.is) (sym c.follow_check.ensures ∙ c.in_default-follow_check.is)

pub returns-in-Err-end_check : goal.returns-in-Err-end_check
returns-in-Err-end_check c = from_end _ _ _ _ c.loop-k.invariant (omega arith) _ (sym c.end_check.ensures ∙ c.in-Err-end_check.is)

pub returns : goal.returns
returns c = all_passed _ _ _ _ c.loop-k.invariant (omega arith) (sym c.end_check.ensures ∙ c.in_default-end_check.is)
