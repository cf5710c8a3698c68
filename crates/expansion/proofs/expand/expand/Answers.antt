-- `expansion::expand::expand` meets its contract. Of a call that is accepted the answer says what `move_call` requires; a refusal leaves the
-- four slices as they were. Assumes nothing.
use mathlib.Core.Path.{◌≡◌, sym, ◌∙◌}
use borrow.Author.Rules.{rules}
use mathlib.Core.List.{List}
use Prim.Native.Nat.{ℕ, ◌^◌, ◌<◌}
use native.Mathlib.Omega.{arith}
use Rattle.words.proofs.Digits.{below_of}
use Rattle.expansion.specs.Tries.{Lent, lent}
use Rattle.expansion.proofs.Outcome.{taken_as, refused_as}
use Rattle.expansion.proofs.Moved.{fair_inside}
use Rattle.expansion.proofs.expand.expand.Goals as goal

pub invariant_of-window : goal.invariant_of-window
invariant_of-window c =
    let k = taken_as _ _ c.in-Ok.expanded c.in-Ok.ensures in
    record { same = sym k.0.fair.window }

pub move_call-requires : goal.move_call-requires
move_call-requires c =
    let k = taken_as _ _ c.in-Ok.expanded c.in-Ok.ensures in
    let small : c.args.limit < 2 ^ 64 = omega (arith, c.requires) in
    let stamp_fits : c.args.call.timestamp < 2 ^ 64 = search rules in
    let dst_fits : c.args.call.dst < 2 ^ 64 = search rules in (
      fair_inside _ _ _ k.0.fair small stamp_fits dst_fits,
      k.1,
      k.0.room.ops,
      k.0.room.accesses,
      below_of 8 c.args.bytes.now (λ i. grind arith),
    )

-- what the window's slices hold at the end is what the caller's hold
lent_as : (b s : List ℕ) {b' s' o a : List ℕ} {l : Lent} → b' ≡ b → s' ≡ s → lent b s o a ≡ l → lent b' s' o a ≡ l
lent_as b s {o = o} {a = a} eb es e = (λ i. lent (eb i) (es i) o a) ∙ e

pub returns-in-Ok : goal.returns-in-Ok
returns-in-Ok c =
    let k = taken_as _ _ c.in-Ok.expanded c.in-Ok.ensures in
    let after = c.move_call.new.window in
    record {
      answer = c.in-Ok.ensures;
      slices = lent_as after.bytes.now after.stamps.now (search rules) (search rules) (c.move_call.ensures.after ∙ sym k.0.after);
    }

pub returns-in_default : goal.returns-in_default
returns-in_default c =
    record { answer = c.expansion_answer-answer.ensures; slices = sym (refused_as _ _ c.in_default.field-0 c.in_default.ensures).kept }
