-- `exports::flat_registers::collect_copy_register_ops` meets its contract: each way out is a case of the definition, and the step that is
-- called is the definition's. Assumes nothing.
use mathlib.Core.Path.{◌≡◌, sym, ap, ◌∙◌}
use Rattle.call.specs.Calls.{Call}
use Rattle.registers.specs.Step.{register_step, step_numbers}
use Rattle.registers.specs.declared.RegisterStep.{RegisterStep}
use Rattle.exports.specs.FlatRegisters.{state_numbers, flat_step, flat_answer}
use Rattle.exports.proofs.FlatRegisters.{told, kind_refused, index_refused, same_step, same_answer, step_refused_lem, ten, step_taken}
use Rattle.exports.proofs.flat_registers.collect_copy_register_ops.Goals as goal

pub returns-then-no_kind : goal.returns-then-no_kind
returns-then-no_kind c =
    let call : Call = let a = c.args in record { kind = a.kind; stamp = a.timestamp; src = a.src; dst = a.dst; count = a.count } in
    let l = c.args.state.now in
    let records = c.args.records.now in
    let none = sym c.no_kind.ensures ∙ c.if-no_kind.true in
    ten call l records _ c.refuse.ensures (kind_refused call l records none)

pub returns-then-flat-gt4294967295 : goal.returns-then-flat-gt4294967295
returns-then-flat-gt4294967295 c =
    let call : Call = let a = c.args in record { kind = a.kind; stamp = a.timestamp; src = a.src; dst = a.dst; count = a.count } in
    let l = c.args.state.now in
    let records = c.args.records.now in
    let some = sym c.no_kind.ensures ∙ c.if-no_kind.false in
    ten call l records _ c.refuse-then-flat-gt4294967295.ensures (index_refused call l records some c.if-flat-gt4294967295.true)

pub returns-then-answer-ne0 : goal.returns-then-answer-ne0
returns-then-answer-ne0 c =
    let call : Call = let a = c.args in record { kind = a.kind; stamp = a.timestamp; src = a.src; dst = a.dst; count = a.count } in
    let step : let a = c.args in register_step c.kind_of.result a.timestamp a.src a.dst a.count c.state_of.result
    ≡ flat_step call c.args.state.now = same_step call c.args.state.now c.args.records.now _ _ c.kind_of.ensures c.state_of.ensures in
    let answer_at : c.numbers-answer.result ≡ flat_answer call c.args.state.now =
    told _ _ c.numbers-answer.ensures.ok c.numbers-answer.ensures.err
    ∙ c.collect_copy_register_ops-step.ensures.answer
    ∙ ap (λ (x : RegisterStep). step_numbers x.answer) step
    ∙ same_answer call c.args.state.now c.args.records.now
    (sym c.no_kind.ensures ∙ c.if-no_kind.false) c.if-flat-gt4294967295.false in
    step_refused_lem call c.args.state.now c.args.records.now _ answer_at c.if-answer-ne0.true

pub returns : goal.returns
returns c =
    let call : Call = let a = c.args in record { kind = a.kind; stamp = a.timestamp; src = a.src; dst = a.dst; count = a.count } in
    let step : let a = c.args in register_step c.kind_of.result a.timestamp a.src a.dst a.count c.state_of.result
    ≡ flat_step call c.args.state.now = same_step call c.args.state.now c.args.records.now _ _ c.kind_of.ensures c.state_of.ensures in
    let answer_at : c.numbers-answer.result ≡ flat_answer call c.args.state.now =
    told _ _ c.numbers-answer.ensures.ok c.numbers-answer.ensures.err
    ∙ c.collect_copy_register_ops-step.ensures.answer
    ∙ ap (λ (x : RegisterStep). step_numbers x.answer) step
    ∙ same_answer call c.args.state.now c.args.records.now
    (sym c.no_kind.ensures ∙ c.if-no_kind.false) c.if-flat-gt4294967295.false in
    let done = c.collect_copy_register_ops-step.ensures in
    step_taken call c.args.state.now c.args.records.now _ answer_at c.if-answer-ne0.false _ _
    (c.state_numbers.ensures ∙ ap state_numbers (done.state ∙ ap (λ (x : RegisterStep). x.state) step))
    (done.records ∙ ap (λ (x : RegisterStep). x.records) step)
