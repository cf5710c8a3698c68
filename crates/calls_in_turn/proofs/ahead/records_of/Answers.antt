-- `calls_in_turn::ahead::records_of` meets its contract. Assumes nothing.
use mathlib.Core.Path.{◌≡◌, sym, ap, ◌∙◌}
use mathlib.Core.Bool.{true}
use native.Mathlib.Omega.{arith}
use Rattle.call.specs.Calls.{Call}
use Rattle.call.specs.Flat.{call_from, good_call}
use Rattle.call.proofs.GoodCalls.{good_whole}
use Rattle.expansion.specs.Tries.{under, lengths_are}
use Rattle.expansion.specs.Refusals.{answer_by, ExpansionNumbers}
use Rattle.expansion.proofs.Outcome.{answer_room}
use Rattle.calls_in_turn.specs.Inner.{added_by}
use Rattle.calls_in_turn.proofs.ahead.records_of.Goals as goal

pub returns-then-not-good_call : goal.returns-then-not-good_call
unfolding added_by
returns-then-not-good_call c = record {
  value = rw (sym c.good_call.ensures ∙ c.if-not-good_call.true);
  result_bound = omega arith;
}

pub call_from-requires : goal.call_from-requires
call_from-requires c =
    let good_at : good_call c.args.call.now ≡ true = sym c.good_call.ensures ∙ c.if-not-good_call.false in
    good_whole _ good_at

pub returns : goal.returns
unfolding added_by
returns c =
    let good_at : good_call c.args.call.now ≡ true = sym c.good_call.ensures ∙ c.if-not-good_call.false in
    let a = c.args in
    let n = lengths_are a.cells a.stamped a.room a.space in
    let found =
    c.records_in.ensures
    ∙ ap (λ (x : ExpansionNumbers). x.answer.value) c.expansion_answer.ensures
    ∙ ap (λ (x : Call). (answer_by (under a.gap) x n).value) c.call_from.ensures in record {
      value = rw good_at found;
      result_bound = omega (arith, found, answer_room (under a.gap) (call_from a.call.now) n);
    }
