-- `memw::trace::memw_answer` meets its contract: the answer of the records' kind. Assumes nothing.
use mathlib.Core.Path.{◌∙◌}
use borrow.Author.Rules.{rules}
use Rattle.kinds.specs.Inner.{kind_answer}
use Rattle.memw.proofs.AccessTables.{row_width_bound, answer_of_kind}
use Rattle.memw.proofs.trace.memw_answer.Statement.{statement}
use Rattle.memw.proofs.trace.memw_answer.Tie as tie

-- the entry, seen from the row width
abbrev start_of : tie.After-row_width → tie.Start
start_of c = c.before.before.before

kind_answer_requires : tie.Need-kind_answer-requires
kind_answer_requires c κs = ((start_of c).requires, rw c.row_width.ensures (row_width_bound (start_of c).args.t))

returns : tie.Need-returns
returns c =
    let widths = c.before in
    let a = (start_of widths).args in
    c.kind_answer.ensures
    ∙ (λ i. kind_answer (widths.before.record_kind.ensures i) a.limit (widths.row_width.ensures i) a.records.now a.room)
    ∙ answer_of_kind a.t a.limit a.records.now a.room

pub memw_answer_spec : {M : Type 1} → statement M
memw_answer_spec = tie.close (tie.spec (λ c κs. search rules) (λ c κs. search rules) kind_answer_requires returns)
