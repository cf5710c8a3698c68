-- `expansion_rows::turns::set_turn` meets its contract: the record of the read is made of what was taken before the write. Assumes
-- nothing.
use mathlib.Core.Path.{◌≡◌, ap, ◌∙◌}
use lib.ListN.{length}
use native.Mathlib.Omega.{arith}
use borrow.Author.Rules.{rules}
use Rattle.window.proofs.WindowLaws.{length_bytes}
use Prim.Native.Nat.{◌*◌}
use Rattle.call.specs.Inner.{call_of}
use Rattle.access.specs.Access.{ACCESS_WIDTH}
use Rattle.expansion_rows.proofs.OneTurn.{set_law, two_parts}
use Rattle.expansion_rows.proofs.turns.set_turn.Goals as goal

pub write_back-requires : goal.write_back-requires
write_back-requires c =
    let before = c.args.window.now.bytes.now in
    let after = c.write_cells.new.self.bytes.now in
    let kept : length after ≡ length before = ap length c.write_cells.ensures.bytes_after ∙ length_bytes before _ _ _ in
    (c.requires.1, omega (arith, c.requires.2, kept), search rules)

pub returns : goal.returns
returns c =
    let a = c.args in
    let m = a.window.now in
    let written = c.write_cells in
    let back = c.write_back in
    let whole =
    set_law (call_of a.call) a.width m.bytes.now m.stamps.now c.requires.0
    c.bytes_at-value.ensures c.stamps_at-old_stamps.ensures
    written.ensures.bytes_after written.ensures.stamps_after written.ensures.access_after
    back.ensures.bytes_after back.ensures.stamps_after back.ensures.access_after
    (two_parts a.accesses.now written.new.access back.new.access
    ACCESS_WIDTH (2 * ACCESS_WIDTH) (search rules) c.requires.4 written.auto.access back.auto.access) in
    record {
      value = whole.0;
      bytes_after = whole.1.0;
      stamps_after = whole.1.1.0;
      accesses_after = whole.1.1.1;
      same = (back.ensures.same.0 ∙ written.ensures.same.0, back.ensures.same.1 ∙ written.ensures.same.1);
    }
