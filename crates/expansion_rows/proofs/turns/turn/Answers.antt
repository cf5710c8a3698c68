-- `expansion_rows::turns::turn` meets its contract: a read changes no byte. Assumes nothing.
use mathlib.Core.Path.{◌≡◌, sym, ◌∙◌}
use native.Mathlib.Omega.{arith}
use Rattle.call.specs.Inner.{call_of}
use Rattle.expansion_rows.proofs.OneTurn.{set_room, read_room, read_bytes, read_stamps, read_accesses}
use Rattle.expansion_rows.proofs.turns.turn.Goals as goal

pub set_turn-requires : goal.set_turn-requires
set_turn-requires c =
    let p = c.requires in
    let a = c.args in
    let set : a.call.kind ≡ 1 = omega arith in
    (set, p.0, p.1, p.2 set, set_room (call_of a.call) set p.3, p.4)

pub read_cells-requires : goal.read_cells-requires
read_cells-requires c =
    let p = c.requires in
    let a = c.args in
    (p.0, p.1, read_room (call_of a.call) (λ q. omega arith) p.3)

pub returns : goal.returns
returns c =
    let a = c.args in
    let p = c.requires in
    let r = c.read_cells.ensures in
    let here = call_of a.call in
    let other : a.call.kind ≡ 1 → ⊥ = λ q. omega arith in
    let bytes = a.window.now.bytes.now in
    let stamps = a.window.now.stamps.now in record {
      value = r.value;
      bytes_after = r.bytes_after ∙ sym (read_bytes here a.width bytes stamps other p.0 p.1);
      stamps_after = r.stamps_after ∙ read_stamps here a.width bytes stamps other;
      accesses_after = r.access_after ∙ read_accesses here a.width bytes stamps other;
      same = r.same;
    }
