-- `rights::cover::giver` meets its contract. The invariant: the lowest giver is the lowest from `k` on. Assumes nothing.
use mathlib.Core.Path.{◌≡◌, sym, ap, ◌∙◌}
use native.Mathlib.Omega.{arith}
use Rattle.lists.proofs.First.{first_miss, first_hit, first_end}
use Rattle.rights.specs.Entries.{whole_entries}
use Rattle.rights.specs.Rights.{gives}
use Rattle.rights.proofs.CoverLaws.{gives_at, giver_start}
use Rattle.rights.proofs.cover.giver.Goals as goal

pub loop-k-init : goal.loop-k-init
loop-k-init c = giver_start _ _ _ _

pub returns-then-gives : goal.returns-then-gives
returns-then-gives c =
    let a = c.args in
    let l = a.entries.now in
    let judged : c.gives.result ≡ gives_at l a.party a.right a.x c.loop-k.k = c.gives.ensures ∙ ap (gives a.party a.right a.x) c.record_at.ensures in
    let hit = sym judged ∙ c.if-gives.true in
    sym (c.loop-k.invariant ∙ first_hit (gives_at l a.party a.right a.x) c.loop-k.k (whole_entries l) (omega arith) hit)

pub loop-k-preserved : goal.loop-k-preserved
loop-k-preserved c =
    let a = c.args in
    let l = a.entries.now in
    let judged : c.gives.result ≡ gives_at l a.party a.right a.x c.loop-k.k = c.gives.ensures ∙ ap (gives a.party a.right a.x) c.record_at.ensures in
    let miss = sym judged ∙ c.if-gives.false in
    c.loop-k.invariant ∙ first_miss (gives_at l a.party a.right a.x) c.loop-k.k (whole_entries l) (omega arith) miss

pub returns : goal.returns
returns c =
    let a = c.args in
    let l = a.entries.now in
    omega (arith, c.loop-k.invariant ∙ first_end (gives_at l a.party a.right a.x) c.loop-k.k (whole_entries l) (omega arith))
