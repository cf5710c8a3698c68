use Rattle.call.specs.Inner.{call_of}
use Rattle.window.specs.Inner.{SameSlices}
use Rattle.expansion_rows.proofs.ReadLoop.{PassAt}
use Rattle.expansion_rows.proofs.turns.read_pass.Given as goal

abbrev pub invariant-loop-left : goal.invariant-loop-left
invariant-loop-left l =
    let m = l.initial.window in
    record {
      at : PassAt (call_of l.initial.left) m.bytes.now m.stamps.now l.initial.ops l.initial.accesses l.per l.window.bytes.now l.window.stamps.now l.ops l.accesses
          (call_of l.left) l.first l.k l.j;
      same : SameSlices m l.window;
    }

abbrev pub decreases-loop-left : goal.decreases-loop-left
decreases-loop-left l = l.left.count
