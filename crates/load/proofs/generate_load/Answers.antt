-- `load::generate_load`: its two tests are those of 19 and 9, the buffer's by how many calls it holds. Assumes nothing.
use mathlib.Core.Path.{◌∙◌}
use Prim.Native.Nat.{◌*◌}
use native.Mathlib.Omega.{arith}
use borrow.Author.Tests.{lt-ltb, le-ltb}
use Rattle.records.specs.Records.{LIMIT}
use Rattle.call.specs.Flat.{HANDED_WIDTH}
use Rattle.load.proofs.Loaded.{too_many_lem, too_short, all_written}
use Rattle.load.proofs.generate_load.Goals as goal

pub returns-then-wanted-gt-LIMIT : goal.returns-then-wanted-gt-LIMIT
returns-then-wanted-gt-LIMIT c =
    let a = c.args in
    too_many_lem a.s a.n a.calls.now (lt-ltb LIMIT a.n (omega arith))

pub returns-then-room-wanted : goal.returns-then-room-wanted
returns-then-room-wanted c =
    let a = c.args in
    too_short a.s a.n a.calls.now (le-ltb LIMIT a.n (omega arith)) (lt-ltb _ (HANDED_WIDTH * a.n) (omega arith))

pub returns : goal.returns
returns c =
    let a = c.args in
    let all = all_written a.s a.n a.calls.now (le-ltb LIMIT a.n (omega arith)) (le-ltb _ (HANDED_WIDTH * a.n) (omega arith)) in
    record { answer = all.answer; written = c.write_calls.ensures ∙ all.written }
