-- `calls_in_turn::turns::expand_next` meets its contract. Assumes nothing.
use mathlib.Core.Path.{◌≡◌, sym, ◌∙◌}
use mathlib.Core.Bool.{true}
use Rattle.call.specs.Flat.{good_call}
use Rattle.call.proofs.GoodCalls.{good_whole}
use Rattle.expansion.specs.Tries.{under, Lent, lent}
use Rattle.calls_in_turn.proofs.Expanding.{turned_none, turned_one}
use Rattle.calls_in_turn.proofs.turns.expand_next.Goals as goal

pub returns-then-not-good_call : goal.returns-then-not-good_call
returns-then-not-good_call c =
    let l_of : Lent = lent c.args.bytes.now c.args.stamps.now c.args.ops.now c.args.accesses.now in
    turned_none (under c.args.gap) c.args.call.now c.args.done l_of c.requires
    (sym c.good_call.ensures ∙ c.if-not-good_call.true)

pub call_from-requires : goal.call_from-requires
call_from-requires c =
    let good_at : good_call c.args.call.now ≡ true = sym c.good_call.ensures ∙ c.if-not-good_call.false in
    good_whole _ good_at

pub returns : goal.returns
returns c =
    let l_of : Lent = lent c.args.bytes.now c.args.stamps.now c.args.ops.now c.args.accesses.now in
    let good_at : good_call c.args.call.now ≡ true = sym c.good_call.ensures ∙ c.if-not-good_call.false in
    turned_one (under c.args.gap) c.args.call.now c.args.done l_of c.requires good_at
    _ c.call_from.ensures _ _ c.expand-answer.ensures _ c.records_in.ensures
