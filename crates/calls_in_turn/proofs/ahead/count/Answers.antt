-- `calls_in_turn::ahead::count` meets its contract. Assumes nothing.
use native.Mathlib.Omega.{arith}
use mathlib.Core.Path.{ap, ◌∙◌}
use Prim.Native.Nat.{◌+◌}
use lib.Dec.{ltb}
use Rattle.expansion_rows.proofs.RowList.{bit_lem}
use Rattle.expansion.specs.Tries.{under, lengths_are}
use Rattle.calls_in_turn.proofs.Counting.{count_start, count_turn, count_end}
use Rattle.calls_in_turn.proofs.ahead.count.Goals as goal

pub loop-k-init : goal.loop-k-init
loop-k-init c =
    let a = c.args in
    count_start (under a.gap) (lengths_are a.cells a.stamped a.room a.space) a.calls.now _ c.record_count-n.ensures

pub record_at-call-requires : goal.record_at-call-requires
record_at-call-requires c = omega arith

pub loop-k-preserved : goal.loop-k-preserved
loop-k-preserved c =
    let told = c.records_of-added in
    let a = c.args in
    count_turn (under a.gap) (lengths_are a.cells a.stamped a.room a.space) a.calls.now _ _ _ _ c.loop-k.invariant
    c.loop-k-test.true _ c.record_at-call.ensures _ _ told.ensures.value told.ensures.result_bound
    (ap (λ n. c.loop-k.accepted + n) (c.from-accepted.ensures ∙ bit_lem (ltb 0 told.result)))

pub returns : goal.returns
returns c =
    let a = c.args in
    let n = lengths_are a.cells a.stamped a.room a.space in
    let ended = count_end (under a.gap) n a.calls.now _ _ _ _ c.loop-k.invariant (omega arith) in record {
      ops = ended.0;
      calls = ended.1;
      few = omega (arith, c.loop-k.invariant.few, c.loop-k.invariant.upto, c.loop-k.invariant.whole);
    }
