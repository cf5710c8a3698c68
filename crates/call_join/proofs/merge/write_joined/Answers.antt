-- `call_join::merge::write_joined` meets its contract. The invariant: to go on from here gives the whole. Assumes nothing.
use mathlib.Core.Path.{◌≡◌, sym, ap, ◌∙◌}
use mathlib.Core.Bool.{true, ◌&&◌, and-eq-true_iff}
use Prim.Native.Nat.{ℕ, ◌+◌, ◌*◌, ◌<◌}
use native.Mathlib.Omega.{arith}
use borrow.Author.Tests.{ltb-true}
use lib.Dec.{ltb}
use lib.ListN.{length, drop}
use Rattle.lists.specs.Lists.{store}
use Rattle.lists.proofs.Store.{length_store}
use Rattle.call.specs.Flat.{HANDED_WIDTH}
use Rattle.call_join.proofs.Going.{gone_on, goes_first, goes_second, going_start, going_end}
use Rattle.call_join.proofs.merge.write_joined.Goals as goal

-- a call is left in both lists
both_left : {n m p q : ℕ} (i j : ℕ) → ltb i n && ltb j m ≡ true → n ≡ p → m ≡ q → (i < p) × (j < q)
both_left {n} {m} i j e f g =
    let both = (and-eq-true_iff (ltb i n) (ltb j m)).0 e in
    (omega (arith, ltb-true i n both.0), omega (arith, ltb-true j m both.1))

pub loop-i-init : goal.loop-i-init
loop-i-init c = (omega arith, c.record_count-n.ensures, c.record_count-m.ensures, omega arith, omega arith, going_start _ _ _)

pub loop-i-preserved-then-whole_stamp : goal.loop-i-preserved-then-whole_stamp
loop-i-preserved-then-whole_stamp c =
    let l = c.loop-i in
    let left = both_left l.i l.j c.loop-i-test.true l.invariant.1 l.invariant.2 in
    let a = c.args.first.now in
    let b = c.args.second.now in (
      ap length c.put_call.ensures ∙ length_store l.joined _ _ ∙ l.invariant.0,
      l.invariant.1,
      l.invariant.2,
      omega (arith, left, l.invariant.1),
      l.invariant.4,
      ap (gone_on a b (l.i + 1) l.j) c.put_call.ensures
          ∙ goes_first a b l.i l.j left.0 left.1 c.requires.0 (omega arith) l.joined
          ∙ l.invariant.5,
    )

pub loop-i-preserved : goal.loop-i-preserved
loop-i-preserved c =
    let l = c.loop-i in
    let left = both_left l.i l.j c.loop-i-test.true l.invariant.1 l.invariant.2 in
    let a = c.args.first.now in
    let b = c.args.second.now in (
      ap length c.put_call-in-loop-i.ensures ∙ length_store l.joined _ _ ∙ l.invariant.0,
      l.invariant.1,
      l.invariant.2,
      l.invariant.3,
      omega (arith, left, l.invariant.2),
      ap (gone_on a b l.i (l.j + 1)) c.put_call-in-loop-i.ensures
          ∙ goes_second a b l.i l.j left.0 left.1 c.requires.1 (omega arith) l.joined
          ∙ l.invariant.5,
    )

-- behind the loop
pub returns : goal.returns
returns c =
    let l = c.loop-i in
    let a = c.args.first.now in
    let b = c.args.second.now in
    c.put_rest-2.ensures
    ∙ (λ k. store (c.put_rest.ensures k) (HANDED_WIDTH * (l.invariant.1 k + l.j)) (drop (HANDED_WIDTH * l.j) b))
    ∙ going_end a b l.joined c.requires.0 c.requires.1 l.i l.j
    (omega (arith, l.invariant.1)) (omega (arith, l.invariant.2)) (sym (λ k. ltb l.i (l.invariant.1 k) && ltb l.j (l.invariant.2 k)) ∙ c.loop-i-test.false)
    ∙ l.invariant.5
