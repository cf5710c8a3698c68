-- `expansion::expand::move_call` meets its contract, kind by kind. Assumes nothing.
use mathlib.Core.Path.{refl, ap, ◌∙◌}
use mathlib.Core.List.{List}
use Prim.Native.Nat.{ℕ, ◌<◌}
use native.Mathlib.Omega.{arith}
use Rattle.call.specs.Inner.{call_of}
use Rattle.expansion.specs.Tries.{lent}
use Rattle.expansion.proofs.Moved.{empty_room, pass_inside, expanded_empty, expanded_pass}
use Rattle.expansion.proofs.expand.move_call.Goals as goal

pub write_empty-requires : goal.write_empty-requires
write_empty-requires c =
    (c.if-call-eq0.true, empty_room (call_of c.args.call) c.if-call-eq0.true c.requires.2)

pub returns-then-call-eq0 : goal.returns-then-call-eq0
returns-then-call-eq0 c =
    let a = c.args in
    let l = lent a.window.now.bytes.now a.window.now.stamps.now a.ops.now a.accesses.now in
    record {
      after = ap (λ (x : List ℕ). lent l.bytes l.stamps x l.accesses) c.write_empty.ensures ∙ expanded_empty (call_of a.call) l c.if-call-eq0.true;
      same = (refl, refl);
    }

pub copy_call-requires : goal.copy_call-requires
copy_call-requires c =
    let a = c.args in
    let p = c.requires in
    let some : 0 < a.call.count = omega (arith, c.if-call-eq0.false) in
    (c.if-call-eq0-2.true, some, p.0 some, p.1, p.2, p.3, p.4)

pub read_pass-requires : goal.read_pass-requires
read_pass-requires c =
    let a = c.args in
    let p = c.requires in
    let some : 0 < a.call.count = omega (arith, c.if-call-eq0.false) in
    pass_inside (call_of a.call) some a.window.now.bytes.now a.window.now.stamps.now a.ops.now a.accesses.now (p.0 some) p.2 p.3

pub returns : goal.returns
returns c =
    let a = c.args in
    let l = lent a.window.now.bytes.now a.window.now.stamps.now a.ops.now a.accesses.now in
    let some : 0 < a.call.count = omega (arith, c.if-call-eq0.false) in
    let r = c.read_pass.ensures in
    record {
      after = cc (r.bytes_after, r.stamps_after, r.ops_after, r.accesses_after) ∙ expanded_pass (call_of a.call) l some c.if-call-eq0-2.false;
      same = r.same;
    }
