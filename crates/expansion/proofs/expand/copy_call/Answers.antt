-- `expansion::expand::copy_call` meets its contract: the deferred writes find the operation records that the turns wrote. Assumes
-- nothing.
use mathlib.Core.Path.{◌∙◌}
use Rattle.call.specs.Inner.{call_of}
use Rattle.expansion.proofs.Moved.{pass_inside, write_inside, expanded_copy}
use Rattle.expansion.proofs.expand.copy_call.Goals as goal

pub read_pass-requires : goal.read_pass-requires
read_pass-requires c =
    let a = c.args in
    let m = a.window.now in
    let p = c.requires in
    pass_inside (call_of a.call) p.1 m.bytes.now m.stamps.now a.ops.now a.accesses.now p.2 p.4 p.5

pub write_pass-requires : goal.write_pass-requires
write_pass-requires c =
    let a = c.args in
    let m = a.window.now in
    let r = c.read_pass in
    let p = c.requires in
    write_inside (call_of a.call) m.bytes.now m.stamps.now a.ops.now a.accesses.now p.0 p.1 p.2
    a.rows p.3 p.4 p.5 p.6 r.new.window.bytes.now r.new.window.stamps.now r.new.ops r.new.accesses
    r.ensures.bytes_after r.ensures.stamps_after r.ensures.ops_after r.ensures.accesses_after

pub returns : goal.returns
returns c =
    let a = c.args in
    let m = a.window.now in
    let w = c.write_pass in
    let r = c.read_pass in
    let p = c.requires in
    let after =
    expanded_copy (call_of a.call) m.bytes.now m.stamps.now a.ops.now a.accesses.now p.0 p.1 p.2
    a.rows p.3 p.4 p.5 p.6 r.new.window.bytes.now r.new.window.stamps.now r.new.ops r.new.accesses
    r.ensures.bytes_after r.ensures.stamps_after r.ensures.ops_after r.ensures.accesses_after
    w.new.window.bytes.now w.new.window.stamps.now w.new.accesses w.ensures.bytes_after w.ensures.stamps_after w.ensures.accesses_after in
    record { after = after; same = (w.ensures.same.0 ∙ r.ensures.same.0, w.ensures.same.1 ∙ r.ensures.same.1) }
