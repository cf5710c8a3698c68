use Rattle.window.specs.Inner.{SameSlices}
use Rattle.expansion_rows.proofs.WriteLoop.{WriteAt}
use Rattle.expansion_rows.proofs.held.write_pass.Given as goal

abbrev pub invariant-loop-k : goal.invariant-loop-k
invariant-loop-k l =
    record {
      at : WriteAt l.n l.j l.initial.window.bytes.now l.initial.window.stamps.now l.ops l.initial.accesses l.window.bytes.now l.window.stamps.now l.accesses l.k;
      same : SameSlices l.initial.window l.window;
    }
