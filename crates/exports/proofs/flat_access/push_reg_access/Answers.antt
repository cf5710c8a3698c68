-- `exports::flat_access::push_reg_access` meets its contract: each way out is a case of the definition. Assumes nothing.
use mathlib.Core.Path.{sym, ap, ◌∙◌}
use mathlib.Core.List.{List, [], ◌∷◌}
use Prim.Native.Nat.{ℕ, ◌≤◌, ◌<◌}
use native.Mathlib.Omega.{arith}
use lib.Dec.{eqb}
use Rattle.classify.specs.declared.AccessNumbers.{AccessNumbers}
use Rattle.answer.specs.Numbers.{accepted}
use Rattle.answer.proofs.Parts.{number_same}
use Rattle.classify.specs.Classify.{memw_route, route_number}
use Rattle.reg_access.specs.RegAccess.{built, pushed, push_numbers}
use Rattle.reg_access.specs.declared.RegAccess.{RegAccess}
use Rattle.exports.specs.FlatAccess.{record_over}
use Rattle.exports.proofs.FlatAccess.{pushed_answer, push_refused, push_ten, push_taken}
use Rattle.exports.proofs.flat_access.push_reg_access.Goals as goal

pub returns-then-is_read-gt1 : goal.returns-then-is_read-gt1
returns-then-is_read-gt1 c =
    let no_flag : 1 < c.args.is_read = omega arith in
    let access : RegAccess =
    let a = c.args in
    pushed (built a.reg_addr (a.val0 ∷ a.val1 ∷ []) (a.old0 ∷ a.old1 ∷ []) a.timestamp a.old_timestamp (eqb a.is_read 1)) in
    let lent : List ℕ = c.args.«record».now in
    push_ten c.args.is_read access lent _ c.refuse.ensures no_flag

pub returns-in-Ok : goal.returns-in-Ok
returns-in-Ok c =
    let flag : c.args.is_read ≤ 1 = omega arith in
    let access : RegAccess =
    let a = c.args in
    pushed (built a.reg_addr (a.val0 ∷ a.val1 ∷ []) (a.old0 ∷ a.old1 ∷ []) a.timestamp a.old_timestamp (eqb a.is_read 1)) in
    let lent : List ℕ = c.args.«record».now in
    let told = ap push_numbers (sym c.in-Ok.is) ∙ c.push_reg_access-access.ensures.answer in
    let number = c.accept.ensures ∙ ap accepted c.route_number.ensures in
    push_taken c.args.is_read access lent _ (number ∙ ap (λ (n : AccessNumbers). n.answer) told ∙ pushed_answer c.args.is_read access lent flag)
    _ number _
    (c.write_over.ensures ∙ ap (λ (w : List ℕ). record_over (route_number (memw_route c.in-Ok.route)) w lent) c.push_reg_access-access.ensures.written)

pub returns-in-Err : goal.returns-in-Err
returns-in-Err c =
    let flag : c.args.is_read ≤ 1 = omega arith in
    let access : RegAccess =
    let a = c.args in
    pushed (built a.reg_addr (a.val0 ∷ a.val1 ∷ []) (a.old0 ∷ a.old1 ∷ []) a.timestamp a.old_timestamp (eqb a.is_read 1)) in
    let lent : List ℕ = c.args.«record».now in
    let told = ap push_numbers (sym c.in-Err.is) ∙ c.push_reg_access-access.ensures.answer in
    push_refused c.args.is_read access lent _
    (c.into.ensures ∙ ap (λ (n : AccessNumbers). n.answer) told ∙ pushed_answer c.args.is_read access lent flag)
    (λ z. omega (arith, number_same c.into.ensures))
