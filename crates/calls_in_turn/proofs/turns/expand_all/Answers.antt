-- `calls_in_turn::turns::expand_all` meets its contract: finishing from each turn on gives the whole. Assumes nothing.
use Prim.Native.Nat.{◌^◌, ◌<◌}
use native.Mathlib.Omega.{arith}
use borrow.Author.Rules.{rules}
use lib.ListN.{length}
use Rattle.expansion.specs.Tries.{under, Lent, lent}
use Rattle.calls_in_turn.proofs.Expanding.{going_start, going_turn, going_end}
use Rattle.calls_in_turn.proofs.turns.expand_all.Goals as goal

pub loop-k-init : goal.loop-k-init
loop-k-init c =
    let l_of : Lent = lent c.args.bytes.now c.args.stamps.now c.args.ops.now c.args.accesses.now in
    going_start (under c.args.gap) c.args.calls.now l_of _ c.record_count-n.ensures

pub record_at-call-requires : goal.record_at-call-requires
record_at-call-requires c = omega arith

pub expand_next-done-requires : goal.expand_next-done-requires
expand_next-done-requires c = c.loop-k.invariant.room

pub overflow_add-done : goal.overflow_add-done
overflow_add-done c =
    let ops_small : length c.args.ops.now < 2 ^ 64 = search rules in
    omega (arith, c.expand_next-done.ensures.room, c.loop-k.invariant.ops_same, ops_small)

pub loop-k-preserved : goal.loop-k-preserved
loop-k-preserved c =
    let l_of : Lent = lent c.args.bytes.now c.args.stamps.now c.args.ops.now c.args.accesses.now in
    going_turn (under c.args.gap) c.args.calls.now l_of _ _ _ _ c.loop-k.invariant c.loop-k-test.true
    _ c.record_at-call.ensures _ _ c.expand_next-done.ensures

pub returns : goal.returns
returns c =
    let l_of : Lent = lent c.args.bytes.now c.args.stamps.now c.args.ops.now c.args.accesses.now in
    going_end (under c.args.gap) c.args.calls.now l_of _ _ _ _ c.loop-k.invariant (omega arith)
