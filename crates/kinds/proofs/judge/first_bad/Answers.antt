-- `kinds::judge::first_bad` meets its contract. The invariant: the lowest bad record is the lowest from `k` on. Assumes nothing.
use mathlib.Core.Path.{◌≡◌, sym, ap, ◌∙◌}
use native.Mathlib.Omega.{arith}
use Rattle.records.specs.Records.{record_at}
use Rattle.records.proofs.Records.{bad_start, bad_pass, bad_stop, bad_end, record_within}
use Rattle.kinds.specs.Kinds.{kind_width, good_of_kind}
use Rattle.kinds.proofs.Widths.{width_bounds}
use Rattle.kinds.proofs.judge.first_bad.Goals as goal

pub loop-k-init : goal.loop-k-init
loop-k-init c = bad_start _ _ _

pub record_at-requires : goal.record_at-requires
record_at-requires c =
    let kind = c.args.kind in
    let begins = record_within (kind_width kind) c.args.list.now c.loop-k.k (width_bounds kind).0 (omega arith) in
    rw c.requires.0 (omega (arith, begins))

pub returns-then-not-good_record : goal.returns-then-not-good_record
returns-then-not-good_record c =
    let judged : let a = c.args in
    c.good_record.result ≡ good_of_kind a.kind (record_at (kind_width a.kind) a.list.now c.loop-k.k) =
    let list = c.args.list.now in
    c.good_record.ensures
    ∙ ap (good_of_kind c.args.kind) (c.record_at.ensures ∙ ap (λ w. record_at w list c.loop-k.k) c.requires.0) in
    let args = c.args in
    let bad = sym judged ∙ c.if-not-good_record.true in
    sym (c.loop-k.invariant ∙ bad_stop (kind_width args.kind) (good_of_kind args.kind) args.list.now c.loop-k.k (omega arith) bad)

pub loop-k-preserved : goal.loop-k-preserved
loop-k-preserved c =
    let judged : let a = c.args in
    c.good_record.result ≡ good_of_kind a.kind (record_at (kind_width a.kind) a.list.now c.loop-k.k) =
    let list = c.args.list.now in
    c.good_record.ensures
    ∙ ap (good_of_kind c.args.kind) (c.record_at.ensures ∙ ap (λ w. record_at w list c.loop-k.k) c.requires.0) in
    let args = c.args in
    let good = sym judged ∙ c.if-not-good_record.false in
    c.loop-k.invariant ∙ bad_pass (kind_width args.kind) (good_of_kind args.kind) args.list.now c.loop-k.k (omega arith) good

pub returns : goal.returns
returns c =
    let args = c.args in
    let over : c.loop-k.k ≡ args.n = omega arith in
    sym (c.loop-k.invariant ∙ bad_end (kind_width args.kind) (good_of_kind args.kind) args.list.now c.loop-k.k (omega arith) ∙ over)
