-- `rights::cover::covers` meets its contract. The invariant: the range is covered where what is left of it is; a turn leaves out the bytes of an
-- entry that gives them all. Assumes nothing.
use mathlib.Core.Path.{◌≡◌, refl, sym, ap, ◌∙◌}
use Prim.Native.Nat.{◌<◌}
use native.Mathlib.Omega.{arith}
use Rattle.rights.specs.Entries.{entry_at, end_of}
use Rattle.rights.proofs.CoverLaws.{covered_empty, covered_none, ends_ahead, covered_within, covered_beyond}
use Rattle.rights.proofs.cover.covers.Goals as goal
use Rattle.rights.proofs.cover.covers.Goals.{After-end_of-end}

pub loop-left-init : goal.loop-left-init
loop-left-init c = refl

pub giver-k-requires : goal.giver-k-requires
giver-k-requires c = refl

pub returns-then-n-k : goal.returns-then-n-k
returns-then-n-k c =
    let a = c.args in
    let l = c.loop-left in
    sym (l.invariant ∙ covered_none a.entries.now a.party a.right l.at l.left (omega arith) (omega (arith, c.giver-k.ensures)))

pub end_of-end-requires : goal.end_of-end-requires
end_of-end-requires c =
    let fits = c.requires c.giver-k.result (omega arith) in
    omega (arith, fits, ap end_of c.record_at.ensures)

-- where the entry that gives byte `at` ends, and that this is behind it
ends_at : (c : After-end_of-end) → c.end_of-end.result ≡ end_of (entry_at c.args.entries.now c.giver-k.result)
ends_at c = c.end_of-end.ensures ∙ ap end_of c.record_at.ensures

ahead_at : (c : After-end_of-end) → c.loop-left.at < c.end_of-end.result
ahead_at c =
    let a = c.args in
    let l = c.loop-left in
    ends_ahead a.entries.now a.party a.right l.at l.left c.giver-k.result c.end_of-end.result c.giver-k.ensures (omega arith) (ends_at c)

pub overflow_sub-end : goal.overflow_sub-end
overflow_sub-end c = omega (arith, ahead_at (goal.at.overflow_sub-end c).After-end_of-end)

pub returns-then-left-end : goal.returns-then-left-end
returns-then-left-end c =
    let a = c.args in
    let l = c.loop-left in
    let k = c.giver-k in
    let within = covered_within a.entries.now a.party a.right l.at l.left k.result c.end_of-end.result k.ensures (omega arith)
    (ends_at (goal.at.returns-then-left-end c).After-end_of-end) in
    sym (l.invariant ∙ within c.if-left-end.true)

pub overflow_sub-left : goal.overflow_sub-left
overflow_sub-left c = omega (arith, ahead_at (goal.at.overflow_sub-left c).After-end_of-end)

pub overflow_sub-left-in-loop-left : goal.overflow_sub-left-in-loop-left
overflow_sub-left-in-loop-left c = omega (arith, ahead_at (goal.at.overflow_sub-left-in-loop-left c).After-end_of-end)

pub loop-left-smaller : goal.loop-left-smaller
loop-left-smaller c = omega (arith, ahead_at (goal.at.loop-left-smaller c).After-end_of-end)

pub loop-left-preserved : goal.loop-left-preserved
loop-left-preserved c =
    let a = c.args in
    let l = c.loop-left in
    let k = c.giver-k in
    let beyond = covered_beyond a.entries.now a.party a.right l.at l.left k.result c.end_of-end.result k.ensures (omega arith)
    (ends_at (goal.at.loop-left-preserved c).After-end_of-end) in
    l.invariant ∙ beyond c.if-left-end.false

pub returns : goal.returns
returns c =
    let a = c.args in
    let l = c.loop-left in
    sym (l.invariant ∙ covered_empty a.entries.now a.party a.right l.at l.left (omega arith))
