use Rattle.std.proofs.Common.{◌≡◌, length, not, arith, ap, ◌∙◌}
use Rattle.records.proofs.Records.{any_above, within_any}
use Rattle.records.proofs.tables.within_limits.Goals as goal

pub returns : goal.returns
returns c =
    let limits = c.args.limits.now in
    let r = c.args.r.now in
    let e : c.loop-i.i ≡ length limits = omega arith in
    ap not (c.loop-i.invariant ∙ ap (any_above limits r) e) ∙ within_any limits r (omega arith)
