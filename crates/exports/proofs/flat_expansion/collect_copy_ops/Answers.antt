-- `exports::flat_expansion::collect_copy_ops` meets its contract: each way out is a case of the definition. Assumes nothing.
use mathlib.Core.Path.{◌≡◌, refl, sym, ap, subst, ◌∙◌}
use mathlib.Core.Bool.{false}
use Prim.Native.Nat.{ℕ}
use borrow.Author.Tests.{ltb-false}
use Rattle.std.specs.Prelude.{Ok, Err}
use Rattle.answer.specs.declared.Answer.{Answer}
use Rattle.call.specs.Calls.{kind_number, no_kind}
use Rattle.call.proofs.GoodCalls.{kind_back}
use Rattle.expansion.specs.Tries.{under, Lent, lent, Try, try_of}
use Rattle.expansion.specs.Refusals.{ExpansionNumbers, expansion_numbers}
use Rattle.expansion.specs.Expansion.{Done}
use Rattle.exports.proofs.FlatExpansion.{ten, refused_flat, taken_flat, refusal_is_none}
use Rattle.exports.proofs.flat_expansion.collect_copy_ops.Goals as goal

pub returns-then-no_kind : goal.returns-then-no_kind
returns-then-no_kind c =
    let slices_in : Lent = lent c.args.bytes.now c.args.stamps.now c.args.ops.now c.args.accesses.now in
    let with_kind_place : ℕ → Try = λ k. let a = c.args in try_of (record { kind = k; stamp = a.timestamp; src = a.src; dst = a.dst; count = a.count }) slices_in in
    let handed : Try = with_kind_place c.args.kind in
    ten c.args.gap handed c.args.counts.now
    (sym c.no_kind.ensures ∙ c.if-no_kind.true) _ c.refuse.ensures

pub returns-in-Err : goal.returns-in-Err
returns-in-Err c =
    let slices_in : Lent = lent c.args.bytes.now c.args.stamps.now c.args.ops.now c.args.accesses.now in
    let with_kind_place : ℕ → Try = λ k. let a = c.args in try_of (record { kind = k; stamp = a.timestamp; src = a.src; dst = a.dst; count = a.count }) slices_in in
    let handed : Try = with_kind_place c.args.kind in
    let found : ExpansionNumbers = expansion_numbers (Err c.in-Err.why) in
    let is_kind : no_kind c.args.kind ≡ false = sym c.no_kind.ensures ∙ c.if-no_kind.false in
    let back : kind_number c.kind_of.result ≡ c.args.kind = ap kind_number c.kind_of.ensures ∙ kind_back c.args.kind (ltb-false 2 c.args.kind is_kind) in
    let done_as : (after : Lent) → Done (under c.args.gap) (with_kind_place (kind_number c.kind_of.result)) found after
    → Done (under c.args.gap) handed found after = λ after. subst (λ (k : ℕ). Done (under c.args.gap) (with_kind_place k) found after) back in
    let done = done_as _ c.in-Err.ensures in
    refused_flat c.args.gap handed c.args.counts.now is_kind found _ done _ c.into.ensures
    (λ z. refusal_is_none c.in-Err.why (sym (ap (λ (x : Answer). x.number) c.into.ensures) ∙ z))

pub returns-in-Ok : goal.returns-in-Ok
returns-in-Ok c =
    let slices_in : Lent = lent c.args.bytes.now c.args.stamps.now c.args.ops.now c.args.accesses.now in
    let with_kind_place : ℕ → Try = λ k. let a = c.args in try_of (record { kind = k; stamp = a.timestamp; src = a.src; dst = a.dst; count = a.count }) slices_in in
    let handed : Try = with_kind_place c.args.kind in
    let found : ExpansionNumbers = expansion_numbers (Ok c.in-Ok.expanded) in
    let is_kind : no_kind c.args.kind ≡ false = sym c.no_kind.ensures ∙ c.if-no_kind.false in
    let back : kind_number c.kind_of.result ≡ c.args.kind = ap kind_number c.kind_of.ensures ∙ kind_back c.args.kind (ltb-false 2 c.args.kind is_kind) in
    let done_as : (after : Lent) → Done (under c.args.gap) (with_kind_place (kind_number c.kind_of.result)) found after
    → Done (under c.args.gap) handed found after = λ after. subst (λ (k : ℕ). Done (under c.args.gap) (with_kind_place k) found after) back in
    let done = done_as _ c.in-Ok.ensures in
    taken_flat c.args.gap handed c.args.counts.now is_kind found _ done _ c.accept.ensures _ _ c.accept.ensures refl
