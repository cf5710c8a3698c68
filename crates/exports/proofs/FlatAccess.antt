-- The ways out of the flat register access, by what the code has tested. Assumes nothing.
use mathlib.Core.Path.{◌≡◌, sym, ap, ◌∙◌}
use mathlib.Core.List.{List}
use Prim.Native.Nat.{ℕ, ◌≤◌, ◌<◌}
use native.Mathlib.Omega.{arith}
use borrow.Author.Tests.{eq-eqb, ne_eqb, lt-ltb, le-ltb}
use Rattle.answer.specs.Numbers.{accepted, refused}
use Rattle.answer.specs.declared.Answer.{Answer}
use Rattle.answer.proofs.Parts.{number_same, value_same}
use Rattle.reg_access.specs.RegAccess.{push_numbers}
use Rattle.reg_access.specs.declared.RegAccess.{RegAccess}
use Rattle.exports.specs.FlatAccess.{access_answer, record_over, FlatPushed}

module _ (is_read : ℕ) (a : RegAccess) (lent : List ℕ) where
  pub pushed_answer : is_read ≤ 1 → (push_numbers a.answer).answer ≡ access_answer is_read a
  unfolding access_answer
  pushed_answer h = rw (le-ltb 1 is_read h)

  ten : 1 < is_read → access_answer is_read a ≡ refused 10 0
  unfolding access_answer
  ten h = rw (lt-ltb 1 is_read h)

  -- a refusal writes nothing
  pub push_refused : (r : Answer) → r ≡ access_answer is_read a → (r.number ≡ 0 → ⊥) → FlatPushed is_read a lent r lent
  push_refused r e other = record { answer = e; written = rw (ne_eqb (access_answer is_read a).number 0 (λ z. other (number_same e ∙ z))) }

  pub push_ten : (r : Answer) → r ≡ refused 10 0 → 1 < is_read → FlatPushed is_read a lent r lent
  push_ten r e h = push_refused r (e ∙ sym (ten h)) (λ z. omega (arith, number_same e))

  -- the record of the route that is answered, over what was lent
  pub push_taken : (r : Answer) → r ≡ access_answer is_read a → (route : ℕ) → r ≡ accepted route → (later : List ℕ)
      → later ≡ record_over route a.written lent → FlatPushed is_read a lent r later
  push_taken r e route is later w =
      let told : accepted route ≡ access_answer is_read a = sym is ∙ e in
      let taken = eq-eqb (access_answer is_read a).number 0 (sym (number_same told)) in
      record { answer = e; written = rw taken (w ∙ ap (λ (n : ℕ). record_over n a.written lent) (value_same told)) }
