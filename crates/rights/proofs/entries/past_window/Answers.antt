-- `rights::entries::past_window` meets its contract. The invariant: the lowest entry past the window is the lowest from `k` on. Assumes nothing.
use mathlib.Core.Path.{◌≡◌, sym, ap, ◌∙◌}
use mathlib.Core.List.{List}
use Prim.Native.Nat.{◌+◌}
use native.Mathlib.Omega.{arith}
use lib.Dec.{ltb}
use Rattle.lists.proofs.First.{first_miss}
use Rattle.rights.specs.Entries.{end_of, whole_entries}
use Rattle.rights.proofs.EntryLaws.{ends_past, past_start, past_found, past_end}
use Rattle.rights.proofs.entries.past_window.Goals as goal

pub loop-k-init : goal.loop-k-init
loop-k-init c = past_start _ _

pub returns-then-past : goal.returns-then-past
returns-then-past c =
    let a = c.args in
    let judged : c.past.result ≡ ends_past a.entries.now a.cells c.loop-k.k =
    c.past.ensures
    ∙ (λ i. ltb a.cells (c.number.ensures i + c.number-in-loop-k.ensures i))
    ∙ ap (λ (e : List _). ltb a.cells (end_of e)) c.record_at-entry.ensures in
    past_found a.entries.now a.cells c.loop-k.k (omega arith) c.loop-k.invariant (sym judged ∙ c.if-past.true)

pub loop-k-preserved : goal.loop-k-preserved
loop-k-preserved c =
    let a = c.args in
    let judged : c.past.result ≡ ends_past a.entries.now a.cells c.loop-k.k =
    c.past.ensures
    ∙ (λ i. ltb a.cells (c.number.ensures i + c.number-in-loop-k.ensures i))
    ∙ ap (λ (e : List _). ltb a.cells (end_of e)) c.record_at-entry.ensures in
    let l = a.entries.now in
    c.loop-k.invariant
    ∙ first_miss (ends_past l a.cells) c.loop-k.k (whole_entries l) (omega arith) (sym judged ∙ c.if-past.false)

pub returns : goal.returns
returns c =
    let a = c.args in
    past_end a.entries.now a.cells c.loop-k.k (omega arith) c.loop-k.invariant
