-- `kinds::judge::kind_answer` meets its contract: the limit, then the answer of all tables on the record count and the lowest bad record.
-- Assumes nothing.
use mathlib.Core.Path.{◌≡◌, sym, ap, ◌∙◌}
use Prim.Native.Nat.{ℕ}
use native.Mathlib.Omega.{arith}
use Rattle.records.specs.Records.{record_count}
use Rattle.records.specs.Table.{table_answer}
use Rattle.records.proofs.Table.{answer_over}
use Rattle.kinds.specs.Kinds.{kind_width}
use Rattle.kinds.proofs.Widths.{width_bounds}
use Rattle.kinds.proofs.judge.kind_answer.Goals as goal

pub record_count-n-requires : goal.record_count-n-requires
record_count-n-requires c = rw c.width_of-w.ensures (width_bounds c.args.kind)

pub returns-then-limit-n : goal.returns-then-limit-n
returns-then-limit-n c =
    let count_at : let a = c.args in c.record_count-n.result ≡ record_count (kind_width a.kind) a.list.now = c.record_count-n.ensures ∙ ap (λ (w : ℕ). record_count w c.args.list.now) c.width_of-w.ensures in
    sym (answer_over _ _ _ _ _ (omega (arith, count_at)))

pub first_bad-bad-requires : goal.first_bad-bad-requires
first_bad-bad-requires c =
    let count_at : let a = c.args in c.record_count-n.result ≡ record_count (kind_width a.kind) a.list.now = c.record_count-n.ensures ∙ ap (λ (w : ℕ). record_count w c.args.list.now) c.width_of-w.ensures in
    (c.width_of-w.ensures, count_at)

pub returns : goal.returns
returns c =
    let count_at : let a = c.args in c.record_count-n.result ≡ record_count (kind_width a.kind) a.list.now = c.record_count-n.ensures ∙ ap (λ (w : ℕ). record_count w c.args.list.now) c.width_of-w.ensures in
    let a = c.args in
    c.table_answer.ensures a.limit (omega arith)
    ∙ (λ i. table_answer a.limit a.v (count_at i) (c.first_bad-bad.ensures i) a.room)
