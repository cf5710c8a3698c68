-- `call_join::merge::first_below` meets its contract. The invariant: the lowest call out of order is the lowest from `k` on. Assumes nothing.
use mathlib.Core.Path.{sym, ◌∙◌}
use Prim.Native.Nat.{◌-◌}
use native.Mathlib.Omega.{arith}
use borrow.Author.Tests.{lt-ltb, le-ltb}
use Rattle.lists.proofs.First.{first_miss, first_hit}
use Rattle.call_join.specs.Join.{call_count, stamp_at, is_below}
use Rattle.call_join.proofs.merge.first_below.Goals as goal

pub returns-then-stamp_at : goal.returns-then-stamp_at
returns-then-stamp_at c =
    let l = c.args.calls.now in
    let k = c.loop-k.k in
    sym (c.loop-k.invariant.passed ∙ first_hit (is_below l) k (call_count l) (omega arith) (lt-ltb (stamp_at l k) (stamp_at l (k - 1)) (omega arith)))

pub loop-k-preserved : goal.loop-k-preserved
loop-k-preserved c =
    let l = c.args.calls.now in
    let k = c.loop-k.k in
    record {
      within = omega arith;
      passed = c.loop-k.invariant.passed ∙ first_miss (is_below l) k (call_count l) (omega arith) (le-ltb (stamp_at l k) (stamp_at l (k - 1)) (omega arith));
    }
